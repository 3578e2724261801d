-- What is put in of a list, by its first pair.
use Rattle.std.proofs.Common.{◌≡◌, ℕ, List, [], ◌∷◌, Some, None, refl, bytes_eq, rules, arith}
use Rattle.indexmap.specs.IndexMap.{insert_entry}
use Rattle.tt_tsv.specs.Arrays.{Pairs, pairs_with_items}
use Rattle.tt_tsv.specs.inside.Pairs.{first_pair}

pub filled_more : (elements : Pairs) (items : List (List ℕ)) (key value : List ℕ) (later : List (List ℕ)) →
    first_pair items ≡ Some (key, value, later) → pairs_with_items elements items ≡ pairs_with_items (insert_entry bytes_eq elements key value) later
filled_more elements [] key value later first = absurd (search rules)
filled_more elements (k ∷ []) key value later first = absurd (search rules)
filled_more elements (k ∷ v ∷ items) key value later first = grind arith

pub filled_all : (elements : Pairs) (items : List (List ℕ)) → first_pair items ≡ None → pairs_with_items elements items ≡ elements
filled_all elements [] first = refl
filled_all elements (k ∷ []) first = refl
filled_all elements (k ∷ v ∷ items) first = absurd (search rules)
