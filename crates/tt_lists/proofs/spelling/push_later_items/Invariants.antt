use Rattle.std.proofs.Common.{◌≡◌, ◌++◌, take}
use Rattle.std.specs.List.{flat_map}
use Rattle.tt_lists.specs.Spelling.{later_item}
use Rattle.tt_lists.proofs.spelling.push_later_items.Given as goal

abbrev pub invariant-loop-item : goal.invariant-loop-item
invariant-loop-item l = l.text ≡ l.fn.text ++ flat_map later_item (take l.item-index l.items)
