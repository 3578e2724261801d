use Rattle.std.proofs.Common.{◌≡◌, map}
use Rattle.tt_pairs.proofs.dictionary.Dictionary.keys.Given as goal

abbrev pub invariant-loop-key : goal.invariant-loop-key
invariant-loop-key l = l.keys ≡ map (λ key. key.now) l.yielded
