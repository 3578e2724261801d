use Rattle.std.proofs.Common.{length}
use Rattle.tt_variable_commands.proofs.Writing.{GoesOn}
use Rattle.tt_variable_commands.proofs.arrays.setting.set_each.Given as goal

abbrev pub invariant-pairs : goal.invariant-pairs
invariant-pairs l = GoesOn l.name l.left l.store l.fn.items l.fn.store

abbrev pub decreases-pairs : goal.decreases-pairs
decreases-pairs l = length l.left
