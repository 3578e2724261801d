use Rattle.std.proofs.Common.{length, ◌≡◌}
use Rattle.tt_control.specs.Endings.{last_code}
use Rattle.tt_control.proofs.endings.last_code.Given as goal

abbrev pub invariant-loop-rest : goal.invariant-loop-rest
invariant-loop-rest l = last_code l.name l.words ≡ last_code l.last l.rest

abbrev pub decreases-loop-rest : goal.decreases-loop-rest
decreases-loop-rest l = length l.rest
