use Rattle.std.proofs.Common.{length, ◌≡◌}
use Rattle.tt_control.specs.Choices.{is_whole}
use Rattle.tt_control.proofs.choices.is_whole.Given as goal

abbrev pub invariant-loop-rest : goal.invariant-loop-rest
invariant-loop-rest l = is_whole l.pairs ≡ is_whole l.rest

abbrev pub decreases-loop-rest : goal.decreases-loop-rest
decreases-loop-rest l = length l.rest
