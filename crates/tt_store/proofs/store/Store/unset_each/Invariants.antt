use Rattle.std.proofs.Common.{drop}
use Rattle.tt_store.proofs.Unsetting.{GoesOn}
use Rattle.tt_store.proofs.store.Store.unset_each.Given as goal

abbrev pub invariant-loop-name : goal.invariant-loop-name
invariant-loop-name l = GoesOn l.nocomplain (drop l.name-index l.names) l.self l.names l.fn.self
