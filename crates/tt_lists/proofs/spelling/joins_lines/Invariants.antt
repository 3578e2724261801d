use Rattle.std.proofs.Common.{◌≡◌, length}
use Rattle.tt_lists.specs.Spelling.{joins_lines}
use Rattle.tt_lists.proofs.spelling.joins_lines.Given as goal

abbrev pub invariant-loop-rest : goal.invariant-loop-rest
invariant-loop-rest l = joins_lines l.rest ≡ joins_lines l.fn.item

abbrev pub decreases-loop-rest : goal.decreases-loop-rest
decreases-loop-rest l = length l.rest
