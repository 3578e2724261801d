use Rattle.std.proofs.Common.{length, ◌≡◌}
use Rattle.tt_control.specs.Endings.{after_codes}
use Rattle.tt_control.proofs.endings.after_codes.Given as goal

abbrev pub invariant-loop-rest : goal.invariant-loop-rest
invariant-loop-rest l = after_codes l.words ≡ after_codes l.rest

abbrev pub decreases-loop-rest : goal.decreases-loop-rest
decreases-loop-rest l = length l.rest
