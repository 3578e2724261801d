use Rattle.std.proofs.Common.{length, ◌≡◌}
use Rattle.tt_control.specs.Choices.{body_from}
use Rattle.tt_control.proofs.choices.body_from.Given as goal

abbrev pub invariant-loop-rest : goal.invariant-loop-rest
invariant-loop-rest l = body_from l.pairs ≡ body_from l.rest

abbrev pub decreases-loop-rest : goal.decreases-loop-rest
decreases-loop-rest l = length l.rest
