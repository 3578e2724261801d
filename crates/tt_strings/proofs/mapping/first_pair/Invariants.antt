use Rattle.std.proofs.Common.{ℕ, List, length}
use Rattle.tt_text.specs.Characters.{Character, characters}
use Rattle.tt_strings.specs.Mapping.{HasNoPair, IsFirstPair}
use Rattle.tt_strings.proofs.mapping.first_pair.Given as goal

abbrev pub invariant-pairs : goal.invariant-pairs
invariant-pairs l = record {
  none : HasNoPair l.left (characters l.text) → HasNoPair l.pairs (characters l.text);
  first : (value : List ℕ) (rest : List Character) → IsFirstPair l.left (characters l.text) value rest → IsFirstPair l.pairs (characters l.text) value rest;
}

abbrev pub decreases-pairs : goal.decreases-pairs
decreases-pairs l = length l.left
