use Rattle.std.proofs.Common.{◌+◌, ◌↔◌, length}
use Rattle.tt_text.specs.Characters.{characters}
use Rattle.tt_text.specs.Glob.{Matches}
use Rattle.tt_text.specs.inside.GlobScan.{MatchesEnd}
use Rattle.tt_text.proofs.patterns.scanned.Given as goal

abbrev pub invariant-places : goal.invariant-places
invariant-places l =
    Matches (characters l.fn.pattern) (characters l.fn.text) ↔ MatchesEnd (characters l.left) (characters l.rest)

abbrev pub decreases-places : goal.decreases-places
decreases-places l = length l.left + length l.rest
