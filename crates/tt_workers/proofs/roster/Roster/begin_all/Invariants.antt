use Rattle.std.proofs.Common.{◌-◌, length}
use Rattle.tt_core.proofs.PlaceLemmas.{HaveBegun}
use Rattle.tt_workers.specs.inside.Places.{IsFreshPlace}
use Rattle.tt_workers.proofs.roster.Roster.begin_all.Given as goal

abbrev pub invariant-loop-alloc : goal.invariant-loop-alloc
invariant-loop-alloc g l = HaveBegun (IsFreshPlace l.fn.setup) l.fn.desk.shared.rows l.fn.self l.self

abbrev pub decreases-loop-alloc : goal.decreases-loop-alloc
decreases-loop-alloc g l = length l.fn.desk.shared.rows - length l.self
