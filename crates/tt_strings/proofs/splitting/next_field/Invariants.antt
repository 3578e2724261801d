use Rattle.std.proofs.Common.{◌≤◌, length}
use Rattle.tt_text.specs.Characters.{characters}
use Rattle.tt_strings.proofs.Fields.{IsPassed}
use Rattle.tt_strings.proofs.splitting.next_field.Given as goal

abbrev pub invariant-characters : goal.invariant-characters
invariant-characters l = record {
  passed : IsPassed (characters l.splitting) (characters l.text) (characters l.left);
  shorter : length l.left ≤ length l.text;
}

abbrev pub decreases-characters : goal.decreases-characters
decreases-characters l = length l.left
