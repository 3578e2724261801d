use Rattle.std.proofs.Common.{◌-◌, length}
use Rattle.tt_core.proofs.PlaceLemmas.{HaveBegun}
use Rattle.tt_core.specs.inside.Crew.{IsPlaced}
use Rattle.tt_core.proofs.crew.Crew.begin_all.Given as goal

abbrev pub invariant-loop-alloc : goal.invariant-loop-alloc
invariant-loop-alloc g l = HaveBegun (IsPlaced l.fn.setup) l.fn.desk.shared.rows l.fn.self l.self

abbrev pub decreases-loop-alloc : goal.decreases-loop-alloc
decreases-loop-alloc g l = length l.fn.desk.shared.rows - length l.self
