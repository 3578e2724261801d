use Rattle.std.proofs.Common.{◌≡◌, map}
use Rattle.std.specs.Map.Iter.{deref_pair}
use Rattle.tt_pairs.specs.Pairs.{items_of}
use Rattle.tt_pairs.proofs.dictionary.Dictionary.items.Given as goal

abbrev pub invariant-loop-key : goal.invariant-loop-key
invariant-loop-key l = l.items ≡ items_of (map deref_pair l.yielded)
