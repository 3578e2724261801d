use Rattle.std.proofs.Common.{drop}
use Rattle.tt_variable_commands.proofs.Removing.{GoesOn}
use Rattle.tt_variable_commands.proofs.arrays.unsetting.unset_each.Given as goal

abbrev pub invariant-loop-index : goal.invariant-loop-index
invariant-loop-index l = GoesOn l.name (drop l.index-index l.indices) l.store l.indices l.fn.store
