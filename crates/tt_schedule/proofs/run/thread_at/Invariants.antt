use Rattle.std.proofs.Common.{◌-◌}
use Rattle.tt_schedule.proofs.PlaceLemmas.{IsAround}
use Rattle.tt_schedule.proofs.run.thread_at.Given as goal

abbrev pub invariant-loop-low : goal.invariant-loop-low
invariant-loop-low l = IsAround l.runs l.place l.low l.high

abbrev pub decreases-loop-low : goal.decreases-loop-low
decreases-loop-low l = l.high - l.low
