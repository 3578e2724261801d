use Rattle.std.proofs.Common.{◌≡◌, drop}
use Rattle.tt_list_commands.specs.Sorting.{number_fault}
use Rattle.tt_list_commands.proofs.sorting.number_fault.Given as goal

abbrev pub invariant-loop-item : goal.invariant-loop-item
invariant-loop-item l = number_fault l.items ≡ number_fault (drop l.item-index l.items)
