use Rattle.std.proofs.Common.{drop}
use Rattle.tt_store.proofs.Assigning.{GoesOn}
use Rattle.tt_store.proofs.store.Store.assign.Given as goal

abbrev pub invariant-loop-name : goal.invariant-loop-name
invariant-loop-name l = GoesOn (drop l.name-index l.names) l.left l.self l.names l.items l.fn.self
