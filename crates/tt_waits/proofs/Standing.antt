-- The places of threads.
use Rattle.std.proofs.Common.{◌≡◌, ℕ, zero, suc, ◌<◌, ◌≤◌, List, [], ◌∷◌, length, map, get_or, nat_cmp, ◌⊎◌, ◌↔◌}
use Rattle.std.proofs.Common.{inl, inr, refl, sym, ap, subst, ◌∙◌, arith}
use Rattle.std.specs.Prelude.{Option, Result, Ok, Err, IfNone}
use Rattle.std.specs.Result.{result_ok}
use Rattle.std.specs.List.{Contains}
use Rattle.std.specs.List.Sorted.{IsStrictlyIncreasing, IsBinarySearchResult}
use Rattle.std.proofs.lemmas.Bool.{cases_order}
use Rattle.std.proofs.lemmas.Grind.{get_or_default_zero}
use Rattle.std.proofs.lemmas.List.Sorted.{searched}
use Rattle.std.proofs.lemmas.Map.Keys.{below_from_sorted, sorted_from_strictly_increasing}
use Rattle.tt_waits.specs.declared.circles.Edge.{Edge}
use Rattle.tt_waits.specs.inside.Places.{IsPlaceOf, Joins}

-- a thread that is there has a place
pub place_of_one : (threads : List ℕ) (thread : ℕ) → Contains threads thread → (place : ℕ) × IsPlaceOf threads thread place
place_of_one threads thread there =
    (there.0, record { within = there.1; stands = sym (get_or_default_zero threads there.0 thread there.1) ∙ there.2 })

-- and one alone
pub one_place : (threads : List ℕ) (thread i j : ℕ) → IsStrictlyIncreasing threads → IsPlaceOf threads thread i → IsPlaceOf threads thread j → i ≡ j
one_place threads thread i j up one other = by (cases_order i j)
  where
    by : (i ≡ j) ⊎ ((i < j) ⊎ (j < i)) → i ≡ j
    by (inl same) = same
    by (inr (inl less)) =
        let below = below_from_sorted threads i j 0 (sorted_from_strictly_increasing threads up) less other.within in
        absurd (omega (arith, below, one.stands, other.stands))
    by (inr (inr more)) =
        let below = below_from_sorted threads j i 0 (sorted_from_strictly_increasing threads up) more one.within in
        absurd (omega (arith, below, one.stands, other.stands))

never_falls : (threads : List ℕ) → IsStrictlyIncreasing threads → (i j : ℕ) → i ≤ j → j < length threads → get_or threads i 0 ≤ get_or threads j 0
never_falls threads up i j order within = by (cases_order i j)
  where
    by : (i ≡ j) ⊎ ((i < j) ⊎ (j < i)) → get_or threads i 0 ≤ get_or threads j 0
    by (inl same) = let is = ap (λ k. get_or threads k 0) same in omega (arith, is)
    by (inr (inl less)) =
        let below = below_from_sorted threads i j 0 (sorted_from_strictly_increasing threads up) less within in
        omega (arith, below)
    by (inr (inr more)) = absurd (omega (arith, order, more))

-- a search that finds no place: there is none
pub not_found : (threads : List ℕ) (thread : ℕ) (searched_for : Result ℕ ℕ) (found : Option ℕ) → IsStrictlyIncreasing threads
    → IsBinarySearchResult (λ y. nat_cmp y thread) threads searched_for → found ≡ result_ok searched_for
    → IfNone found ((place : ℕ) → IsPlaceOf threads thread place → ⊥)
not_found threads thread (Ok at) found up answer is = subst (λ f. IfNone f ((place : ℕ) → IsPlaceOf threads thread place → ⊥)) (sym is) tt
not_found threads thread (Err at) found up answer is =
    subst (λ f. IfNone f ((place : ℕ) → IsPlaceOf threads thread place → ⊥)) (sym is) nowhere
  where
    nowhere : (place : ℕ) → IsPlaceOf threads thread place → ⊥
    nowhere place stands =
        let split = searched threads thread (Err at) answer (never_falls threads up) in
        by (cases_order place at) (split.1 place) (split.2 place)
      where
        by : (place ≡ at) ⊎ ((place < at) ⊎ (at < place)) → (place < at → get_or threads place 0 < thread)
            → (at ≤ place → place < length threads → thread < get_or threads place 0) → ⊥
        by (inl same) before after = let above = after (omega (arith, same)) stands.within in omega (arith, above, stands.stands)
        by (inr (inl less)) before after = let below = before less in omega (arith, below, stands.stands)
        by (inr (inr more)) before after = let above = after (omega (arith, more)) stands.within in omega (arith, above, stands.stands)

-- the mark of an edge is between the places of its threads
pub joins_at : (threads : List ℕ) (one : Edge) (from to : ℕ) → IsStrictlyIncreasing threads → IsPlaceOf threads one.from from → IsPlaceOf threads one.to to
    → (old new : ℕ → ℕ → Type 0) → ((i j : ℕ) → new i j ↔ (old i j ⊎ ((i ≡ from) × (j ≡ to)))) → (i j : ℕ) → new i j ↔ (old i j ⊎ Joins threads one i j)
joins_at threads one from to up from_place to_place old new put i j = (λ mark. there ((put i j).0 mark), λ mark. (put i j).1 (back mark))
  where
    there : old i j ⊎ ((i ≡ from) × (j ≡ to)) → old i j ⊎ Joins threads one i j
    there (inl mark) = inl mark
    there (inr here) = inr (record {
      from_place = subst (λ x. IsPlaceOf threads one.from x) (sym here.0) from_place;
      to_place = subst (λ x. IsPlaceOf threads one.to x) (sym here.1) to_place;
    })

    back : old i j ⊎ Joins threads one i j → old i j ⊎ ((i ≡ from) × (j ≡ to))
    back (inl mark) = inl mark
    back (inr joins) =
        inr (one_place threads one.from i from up joins.from_place from_place, one_place threads one.to j to up joins.to_place to_place)

-- what each edge leads from
pub from_contained : (edges : List Edge) (d : Edge) (k : ℕ) → k < length edges → Contains (map (λ edge. edge.from) edges) (get_or edges k d).from
from_contained [] d k within = absurd (omega (arith, within))
from_contained (edge ∷ edges) d zero within = (0, omega arith, refl)
from_contained (edge ∷ edges) d (suc k) within =
    let later = from_contained edges d k (omega (arith, within)) in
    (suc later.0, omega (arith, later.1), later.2)
