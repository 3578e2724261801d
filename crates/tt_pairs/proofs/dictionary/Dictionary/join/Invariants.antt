use Rattle.std.proofs.Common.{◌≡◌, map}
use Rattle.std.specs.Map.Iter.{deref_pair}
use Rattle.tt_pairs.specs.Pairs.{joined_pairs}
use Rattle.tt_pairs.proofs.dictionary.Dictionary.join.Given as goal

abbrev pub invariant-loop-key : goal.invariant-loop-key
invariant-loop-key l = l.self ≡ joined_pairs l.fn.self (map deref_pair l.yielded)
