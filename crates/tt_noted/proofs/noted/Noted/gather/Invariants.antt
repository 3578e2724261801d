use Rattle.tt_noted.proofs.Gathering.{IsGathering}
use Rattle.tt_noted.proofs.noted.Noted.gather.Given as goal

abbrev pub invariant-loop-pass : goal.invariant-loop-pass
invariant-loop-pass g l = IsGathering l.self l.fn.passes.items l.passes.items l.seat

abbrev pub decreases-loop-pass : goal.decreases-loop-pass
decreases-loop-pass g l = goal.left-loop-pass g l
