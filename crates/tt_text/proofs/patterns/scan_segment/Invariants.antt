use Rattle.std.proofs.Common.{◌≤◌, ◌↔◌, length}
use Rattle.tt_text.specs.Characters.{characters}
use Rattle.tt_text.specs.Glob.{Matches}
use Rattle.tt_text.specs.inside.GlobScan.{MatchesEnd}
use Rattle.tt_text.proofs.patterns.scan_segment.Given as goal

abbrev pub invariant-pieces : goal.invariant-pieces
invariant-pieces l = record {
  here : Matches (characters l.fn.pattern) (characters l.fn.text) ↔ Matches (characters l.left) (characters l.rest);
  later : MatchesEnd (characters l.fn.pattern) (characters l.fn.text) → MatchesEnd (characters l.left) (characters l.rest);
  shorter : length l.left ≤ length l.fn.pattern;
  within : length l.rest ≤ length l.fn.text;
}

abbrev pub decreases-pieces : goal.decreases-pieces
decreases-pieces l = length l.left
