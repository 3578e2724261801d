use Rattle.std.proofs.Common.{◌-◌, ◌+◌, length}
use Rattle.tt_search.proofs.priorities.Priorities.priority.Given as goal

abbrev pub decreases-loop-self : goal.decreases-loop-self
decreases-loop-self l = l.place + 1 - length l.self.of.items
