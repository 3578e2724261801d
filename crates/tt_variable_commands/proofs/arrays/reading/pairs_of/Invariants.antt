use Rattle.std.proofs.Common.{drop}
use Rattle.tt_variable_commands.proofs.Getting.{GoesOn}
use Rattle.tt_variable_commands.proofs.arrays.reading.pairs_of.Given as goal

abbrev pub invariant-loop-index : goal.invariant-loop-index
invariant-loop-index l = GoesOn l.store l.name (drop l.index-index l.indices) l.items l.indices
