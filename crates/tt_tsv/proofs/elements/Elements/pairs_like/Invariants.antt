use Rattle.std.proofs.Common.{◌≡◌, map}
use Rattle.std.specs.List.{flat_map}
use Rattle.std.specs.Map.Iter.{deref_pair}
use Rattle.tt_tsv.specs.Calls.{pair_if_like}
use Rattle.tt_tsv.proofs.elements.Elements.pairs_like.Given as goal

abbrev pub invariant-loop-key : goal.invariant-loop-key
invariant-loop-key l = l.pairs ≡ flat_map (pair_if_like l.pattern) (map deref_pair l.yielded)
