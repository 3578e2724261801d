use Rattle.std.proofs.Common.{length, ◌≡◌}
use Rattle.tt_control.specs.Refusals.{wrong_number}
use Rattle.tt_control.specs.Choices.{switch}
use Rattle.tt_lists.specs.declared.searching.Matching.TheVariants.{Exact}
use Rattle.tt_control.proofs.choices.switch.Given as goal

abbrev pub invariant-loop-rest : goal.invariant-loop-rest
invariant-loop-rest l = switch (wrong_number l.usage) Exact l.words ≡ switch (wrong_number l.usage) l.matching l.rest

abbrev pub decreases-loop-rest : goal.decreases-loop-rest
decreases-loop-rest l = length l.rest
