use Rattle.std.proofs.Common.{◌≡◌, ◌≤◌, length}
use Rattle.tt_text.specs.Characters.{characters}
use Rattle.tt_text.specs.Glob.{after_set}
use Rattle.tt_text.proofs.glob_set.after_set.Given as goal

abbrev pub invariant-loop-character : goal.invariant-loop-character
invariant-loop-character l = record {
  same : after_set (characters l.pattern) ≡ after_set (characters l.rest);
  within : length l.rest ≤ length l.pattern;
}

abbrev pub decreases-loop-character : goal.decreases-loop-character
decreases-loop-character l = length l.rest
