use Rattle.std.proofs.Common.{length, ◌≡◌}
use Rattle.tt_control.specs.Choices.{first_body}
use Rattle.tt_control.proofs.choices.first_body.Given as goal

abbrev pub invariant-loop-rest : goal.invariant-loop-rest
invariant-loop-rest l = first_body l.matching l.text l.pairs ≡ first_body l.matching l.text l.rest

abbrev pub decreases-loop-rest : goal.decreases-loop-rest
decreases-loop-rest l = length l.rest
