use Rattle.std.proofs.Common.{◌≡◌, length}
use Rattle.tt_dict.specs.Paths.{value_at}
use Rattle.tt_dict.proofs.paths.value_at.Given as goal

abbrev pub invariant-loop-next : goal.invariant-loop-next
invariant-loop-next l = value_at l.fn.inner l.key l.keys ≡ value_at l.inner l.at l.rest

abbrev pub decreases-loop-next : goal.decreases-loop-next
decreases-loop-next l = length l.rest
