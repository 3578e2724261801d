use Rattle.std.proofs.Common.{◌≡◌, ◌++◌, take}
use Rattle.tt_value.specs.inside.Listed.{canonical}
use Rattle.tt_value.proofs.listing.Listing.push_all.Given as goal

abbrev pub invariant-loop-item : goal.invariant-loop-item
invariant-loop-item l = l.self ≡ canonical (l.fn.self.items ++ take l.item-index l.items)
