use Rattle.std.proofs.Common.{◌-◌, ◌^◌}
use Rattle.tt_search.proofs.priorities.Priorities.greatest.Given as goal

abbrev pub decreases-loop-thread : goal.decreases-loop-thread
decreases-loop-thread g l = 2 ^ 32 - l.last
