-- Pairs are put in one after the other.
use Rattle.std.proofs.Common.{◌≡◌, ℕ, ◌==◌, List, [], ◌∷◌, ◌++◌, Some, None, refl, length, if◌then◌else◌, rules, arith}
use Rattle.indexmap.proofs.MapLemmas.{insert_all_push}
use Rattle.std.specs.Prelude.{bytes_eq}
use Rattle.tt_pairs.specs.Pairs.{Pairs, joined_pairs, with_pair}
use Rattle.tt_pairs.specs.Reading.{with_items}
use Rattle.tt_pairs.specs.inside.Front.{first_pair}

pub pair_more : (pairs : Pairs) (items : List (List ℕ)) (key value : List ℕ) (later : List (List ℕ)) →
    first_pair items ≡ Some (key, value, later) → with_items pairs items ≡ with_items (with_pair pairs key value) later
pair_more pairs [] key value later first = absurd (search rules)
pair_more pairs (k ∷ []) key value later first = absurd (search rules)
pair_more pairs (k ∷ v ∷ items) key value later first = grind arith

pub pair_last : (pairs : Pairs) (items : List (List ℕ)) →
    first_pair items ≡ None → with_items pairs items ≡ (if length items == 0 then Some pairs else None)
pair_last pairs [] first = refl
pair_last pairs (k ∷ []) first = refl
pair_last pairs (k ∷ v ∷ items) first = absurd (search rules)

pub join_more : (pairs more : Pairs) (pair : List ℕ × List ℕ) →
    joined_pairs pairs (more ++ pair ∷ []) ≡ with_pair (joined_pairs pairs more) pair.0 pair.1
join_more pairs more pair = insert_all_push bytes_eq pairs more pair
