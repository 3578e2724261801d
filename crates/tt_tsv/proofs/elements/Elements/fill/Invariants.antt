use Rattle.std.proofs.Common.{◌≡◌, length}
use Rattle.tt_tsv.specs.Arrays.{pairs_with_items}
use Rattle.tt_tsv.proofs.elements.Elements.fill.Given as goal

abbrev pub invariant-pairs : goal.invariant-pairs
invariant-pairs l = pairs_with_items l.self l.left ≡ pairs_with_items l.fn.self l.fn.items

abbrev pub decreases-pairs : goal.decreases-pairs
decreases-pairs l = length l.left
