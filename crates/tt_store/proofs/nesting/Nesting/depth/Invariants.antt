use Rattle.std.proofs.Common.{◌+◌, ◌≤◌}
use Rattle.tt_store.proofs.Climbing.{LeadsOn}
use Rattle.tt_store.proofs.nesting.Nesting.depth.Given as goal

abbrev pub invariant-callers : goal.invariant-callers
invariant-callers l = (l.depth + l.frame ≤ l.self.current) × LeadsOn l.self l.depth l.frame l.self.current

abbrev pub decreases-callers : goal.decreases-callers
decreases-callers l = l.frame
