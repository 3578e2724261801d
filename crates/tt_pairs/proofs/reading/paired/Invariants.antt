use Rattle.std.proofs.Common.{◌≡◌, [], length}
use Rattle.tt_pairs.specs.Reading.{with_items}
use Rattle.tt_pairs.proofs.reading.paired.Given as goal

abbrev pub invariant-pairs : goal.invariant-pairs
invariant-pairs l = with_items [] l.items ≡ with_items l.dictionary l.left

abbrev pub decreases-pairs : goal.decreases-pairs
decreases-pairs l = length l.left
