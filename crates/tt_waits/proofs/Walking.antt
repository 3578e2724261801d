-- Walks of edges are walks over the marks of edges.
use Rattle.std.proofs.Common.{◌≡◌, ℕ, ◌+◌, ◌<◌, List, [], ◌∷◌, ◌++◌, length, get_or, slice_index, ◌⊎◌, ◌↔◌}
use Rattle.std.proofs.Common.{inl, inr, refl, sym, ap, ap₂, subst, ◌∙◌, arith, length-append}
use Rattle.std.specs.List.{All, Contains}
use Rattle.std.specs.List.Sorted.{IsStrictlyIncreasing}
use Rattle.std.proofs.Math.ListN.{get_or-append}
use Rattle.std.proofs.Math.Seq.{get_or-append_seam}
use Rattle.std.proofs.lemmas.Bool.{cases_order}
use Rattle.std.proofs.lemmas.List.Elements.{Contains-append_left, Contains-push, Contains-push_cases, Contains-get_or}
use Rattle.std.proofs.lemmas.Map.Keys.{below_from_sorted, sorted_from_strictly_increasing}
use Rattle.tt_waits.specs.Walks.{Walks, one_edge, one_more, AreTheCaught, IsCaught, edge}
use Rattle.tt_waits.specs.declared.circles.Edge.{Edge}
use Rattle.tt_waits.specs.declared.rows.Rows.{Rows}
use Rattle.tt_waits.specs.inside.Leading.{Leads, straight, over}
use Rattle.tt_waits.specs.inside.Marks.{IsMarked}
use Rattle.tt_waits.specs.inside.Places.{IsPlaceOf, IsJoined, IsOnDiagonal, AreOnDiagonal}
use Rattle.tt_waits.proofs.Standing.{place_of_one}

-- a walk begins with an edge
first_edge : (edges : List Edge) {a b : ℕ} → Walks edges a b → (one : Edge) × Contains edges one × (one.from ≡ a)
first_edge edges (one_edge {from = a} {to = b} given) = (edge a b, given, refl)
first_edge edges (one_more {from = a} {stop = s} given walk) = (edge a s, given, refl)

module _ (edges : List Edge) (threads : List ℕ) (Mark : ℕ → ℕ → Type 0) (all : All (λ one. Contains threads one.from) edges)
    (marks : (i j : ℕ) → Mark i j ↔ IsJoined threads edges i j) where
  has_place : {a b : ℕ} → Walks edges a b → (place : ℕ) × IsPlaceOf threads a place
  has_place {a} walk =
      let first = first_edge edges walk in
      let given = first.1 in
      let there : Contains threads first.0.from =
      subst (λ e. Contains threads e.from) given.2 (all given.0 first.0 given.1) in
      place_of_one threads a (subst (λ x. Contains threads x) first.2 there)

  edge_of : (i j : ℕ) → Mark i j → Contains edges (edge (slice_index threads i) (slice_index threads j))
  edge_of i j mark =
      let joined = (marks i j).0 mark in
      let joins = joined.joins in
      let from_place = joins.from_place in
      let to_place = joins.to_place in
      subst (λ e. Contains edges e) (ap₂ (λ a b. edge a b) (sym from_place.stands) (sym to_place.stands)) joined.given

  walk_of : {first i j : ℕ} → Leads Mark first i j → Walks edges (slice_index threads i) (slice_index threads j)
  walk_of (straight {from = i} {to = j} mark) = one_edge (edge_of i j mark)
  walk_of (over {from = i} {stop = s} mark below walk) = one_more (edge_of i s mark) (walk_of walk)

  mark_of : (a b i j : ℕ) → IsPlaceOf threads a i → IsPlaceOf threads b j → Contains edges (edge a b) → Mark i j
  mark_of a b i j from_place to_place given =
      (marks i j).1 (record { one = edge a b; given = given; joins = record { from_place = from_place; to_place = to_place } })

  lead_of : {a b : ℕ} → Walks edges a b → (i j : ℕ) → IsPlaceOf threads a i → IsPlaceOf threads b j → Leads Mark (length threads) i j
  lead_of (one_edge {from = a} {to = b} given) i j from_place to_place = straight (mark_of a b i j from_place to_place given)
  lead_of (one_more {from = a} {stop = s} {to = b} given walk) i j from_place to_place =
      let stop = has_place walk in
      let stop_place = stop.1 in
      over (mark_of a s i stop.0 from_place stop_place given) stop_place.within (lead_of walk stop.0 j stop_place to_place)

  -- the threads whose places are marked at themselves are those that are caught
  pub diagonal_is_caught : (rows : Rows) (found : List ℕ) → ((i j : ℕ) → IsMarked rows i j ↔ Leads Mark (length threads) i j)
      → AreOnDiagonal threads rows (length threads) found → AreTheCaught edges found
  diagonal_is_caught rows found closed diagonal =
      record { by_number = diagonal.by_number; exactly = λ t. (λ there. caught t ((diagonal.exactly t).0 there), λ walk. (diagonal.exactly t).1 (stands t walk)) }
    where
      caught : (t : ℕ) → IsOnDiagonal threads rows (length threads) t → IsCaught edges t
      caught t on = subst (λ x. Walks edges x x) on.stands (walk_of ((closed on.place on.place).0 on.marked))

      stands : (t : ℕ) → IsCaught edges t → IsOnDiagonal threads rows (length threads) t
      stands t walk =
          let at = has_place walk in
          let place = at.1 in
          record { place = at.0; is_first = place.within; stands = place.stands; marked = (closed at.0 at.0).1 (lead_of walk at.0 at.0 place place) }

-- the same, where the threads are had under other names
pub caught_is : (edges : List Edge) (threads first second : List ℕ) (marked closed : Rows) (found : List ℕ) → first ≡ threads → second ≡ threads
    → All (λ one. Contains threads one.from) edges → marked.count ≡ length first
    → ((i j : ℕ) → IsMarked marked i j ↔ IsJoined first edges i j)
    → ((i j : ℕ) → IsMarked closed i j ↔ Leads (IsMarked marked) marked.count i j)
    → AreOnDiagonal second closed (length second) found → AreTheCaught edges found
caught_is edges threads first second marked closed found first_is second_is all count marks close diagonal =
    diagonal_is_caught edges threads (IsMarked marked) all
    (subst (λ ts. (i j : ℕ) → IsMarked marked i j ↔ IsJoined ts edges i j) first_is marks) closed found
    (subst (λ n. (i j : ℕ) → IsMarked closed i j ↔ Leads (IsMarked marked) n i j) (count ∙ ap length first_is) close)
    (subst (λ ts. AreOnDiagonal ts closed (length ts) found) second_is diagonal)

-- ---- the diagonal ----

module _ (threads : List ℕ) (rows : Rows) (place : ℕ) (found : List ℕ) (so_far : AreOnDiagonal threads rows place found) where
  wider : {t : ℕ} → IsOnDiagonal threads rows place t → IsOnDiagonal threads rows (place + 1) t
  wider on = let first = on.is_first in record { place = on.place; is_first = omega (arith, first); stands = on.stands; marked = on.marked }

  -- a place that is marked at itself is found
  module _ (up : IsStrictlyIncreasing threads) (within : place < length threads) (marked : IsMarked rows place place) where
    below_new : (k : ℕ) → k < length found → get_or found k 0 < slice_index threads place
    below_new k k_in =
        let on = (so_far.exactly (get_or found k 0)).0 (Contains-get_or found k 0 k_in) in
        let less = below_from_sorted threads on.place place 0 (sorted_from_strictly_increasing threads up) on.is_first within in
        omega (arith, less, on.stands)

    rises : IsStrictlyIncreasing (found ++ slice_index threads place ∷ [])
    rises k k_in = by (cases_order (k + 1) (length found))
      where
        x : ℕ
        x = slice_index threads place

        by : (k + 1 ≡ length found) ⊎ ((k + 1 < length found) ⊎ (length found < k + 1)) →
            get_or (found ++ slice_index threads place ∷ []) k 0 < get_or (found ++ slice_index threads place ∷ []) (k + 1) 0
        by (inl last) =
            let here = get_or-append found (slice_index threads place ∷ []) 0 k (omega (arith, last)) in
            let end = ap (λ n. get_or (found ++ slice_index threads place ∷ []) n 0) last ∙ get_or-append_seam found (slice_index threads place) [] 0 in
            let less = below_new k (omega (arith, last)) in
            omega (arith, here, end, less)
        by (inr (inl inner)) =
            let here = get_or-append found (slice_index threads place ∷ []) 0 k (omega (arith, inner)) in
            let next = get_or-append found (slice_index threads place ∷ []) 0 (k + 1) inner in
            let less = so_far.by_number k inner in
            omega (arith, here, next, less)
        by (inr (inr outer)) =
            let long = length-append found (slice_index threads place ∷ []) in
            absurd (omega (arith, outer, long, k_in))

    pub one_found : AreOnDiagonal threads rows (place + 1) (found ++ slice_index threads place ∷ [])
    one_found = record { by_number = rises; exactly = λ t. (there t, back t) }
      where
        new : IsOnDiagonal threads rows (place + 1) (slice_index threads place)
        new = record { place = place; is_first = omega arith; stands = refl; marked = marked }

        there : (t : ℕ) → Contains (found ++ slice_index threads place ∷ []) t → IsOnDiagonal threads rows (place + 1) t
        there t has = by (Contains-push_cases found (slice_index threads place) t has)
          where
            by : Contains found t ⊎ (slice_index threads place ≡ t) → IsOnDiagonal threads rows (place + 1) t
            by (inl before) = wider ((so_far.exactly t).0 before)
            by (inr is) = record { place = place; is_first = omega arith; stands = is; marked = marked }

        back : (t : ℕ) → IsOnDiagonal threads rows (place + 1) t → Contains (found ++ slice_index threads place ∷ []) t
        back t on = by (cases_order on.place place) on.is_first
          where
            by : (on.place ≡ place) ⊎ ((on.place < place) ⊎ (place < on.place)) → on.place < place + 1 → Contains (found ++ slice_index threads place ∷ []) t
            by (inl same) below =
                subst (λ x. Contains (found ++ slice_index threads place ∷ []) x) (sym (ap (λ p. slice_index threads p) same) ∙ on.stands)
                (Contains-push found (slice_index threads place))
            by (inr (inl less)) below =
                Contains-append_left found (slice_index threads place ∷ []) t
                ((so_far.exactly t).1 (record { place = on.place; is_first = less; stands = on.stands; marked = on.marked }))
            by (inr (inr more)) below = absurd (omega (arith, more, below))

  -- one that isn't is passed
  pub none_found : (IsMarked rows place place → ⊥) → AreOnDiagonal threads rows (place + 1) found
  none_found unmarked = record { by_number = so_far.by_number; exactly = λ t. (λ has. wider ((so_far.exactly t).0 has), back t) }
    where
      back : (t : ℕ) → IsOnDiagonal threads rows (place + 1) t → Contains found t
      back t on = by (cases_order on.place place) on.is_first
        where
          by : (on.place ≡ place) ⊎ ((on.place < place) ⊎ (place < on.place)) → on.place < place + 1 → Contains found t
          by (inl same) below = absurd (unmarked (subst (λ p. IsMarked rows p p) same on.marked))
          by (inr (inl less)) below =
              (so_far.exactly t).1 (record { place = on.place; is_first = less; stands = on.stands; marked = on.marked })
          by (inr (inr more)) below = absurd (omega (arith, more, below))
