use Rattle.std.proofs.Common.{drop}
use Rattle.tt_store.proofs.Setting.{GoesOn}
use Rattle.tt_store.proofs.store.Store.set_variables.Given as goal

abbrev pub invariant-loop-argument : goal.invariant-loop-argument
invariant-loop-argument l = GoesOn (drop l.argument-index l.arguments) l.self l.arguments l.fn.self
