use Rattle.std.proofs.Common.{◌≡◌, map}
use Rattle.tt_pairs.proofs.dictionary.Dictionary.values.Given as goal

abbrev pub invariant-loop-value : goal.invariant-loop-value
invariant-loop-value l = l.values ≡ map (λ value. value.now) l.yielded
