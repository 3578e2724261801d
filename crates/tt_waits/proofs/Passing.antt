-- Walks whose inner stops are among the first places: one stop more, and the marks that a pass puts.
use Rattle.std.proofs.Common.{◌≡◌, ℕ, ◌+◌, ◌<◌, ◌⊎◌, ◌↔◌, inl, inr, sym, subst, arith}
use Rattle.std.proofs.lemmas.Bool.{cases_order}
use Rattle.tt_waits.specs.inside.Leading.{Leads, straight, over}

module _ (Mark : ℕ → ℕ → Type 0) where
  no_stop : {i j : ℕ} → Leads Mark 0 i j → Mark i j
  no_stop (straight mark) = mark
  no_stop (over mark below walk) = absurd (omega (arith, below))

  -- a walk without inner stops is a mark
  pub without_stops : (i j : ℕ) → Mark i j ↔ Leads Mark 0 i j
  without_stops i j = (λ mark. straight mark, no_stop)

  wider : {first i j : ℕ} → Leads Mark first i j → Leads Mark (first + 1) i j
  wider (straight mark) = straight mark
  wider (over mark below walk) = over mark (omega (arith, below)) (wider walk)

  joined : {first i stop j : ℕ} → stop < first → Leads Mark first i stop → Leads Mark first stop j → Leads Mark first i j
  joined within (straight mark) later = over mark within later
  joined within (over mark below walk) later = over mark below (joined within walk later)

  -- a walk with no inner stop at a place, or one from its start to the place and one from the place to its end
  abbrev IsCut : (first i j : ℕ) → Type 0
  IsCut first i j = Leads Mark first i j ⊎ (Leads Mark first i first × Leads Mark first first j)

  longer : {first i s j : ℕ} → Mark i s → (s ≡ first) ⊎ ((s < first) ⊎ (first < s)) → s < first + 1 → IsCut first s j → IsCut first i j
  longer {first} {i} {s} {j} mark (inl at) below (inl walk) =
      inr (straight (subst (λ x. Mark i x) at mark), subst (λ x. Leads Mark first x j) at walk)
  longer {first} {i} {s} {j} mark (inl at) below (inr both) = inr (straight (subst (λ x. Mark i x) at mark), both.1)
  longer mark (inr (inl less)) below (inl walk) = inl (over mark less walk)
  longer mark (inr (inl less)) below (inr both) = inr (over mark less both.0, both.1)
  longer mark (inr (inr more)) below rest = absurd (omega (arith, below, more))

  cut : (first : ℕ) {i j : ℕ} → Leads Mark (first + 1) i j → IsCut first i j
  cut first (straight mark) = inl (straight mark)
  cut first (over {stop = s} mark below walk) = longer mark (cases_order s first) below (cut first walk)

  uncut : (first : ℕ) {i j : ℕ} → IsCut first i j → Leads Mark (first + 1) i j
  uncut first (inl walk) = wider walk
  uncut first (inr both) = joined {stop = first} (omega arith) (wider both.0) (wider both.1)

  -- one stop more: what is marked after a pass over it
  pub one_stop_more : (now new : ℕ → ℕ → Type 0) (first : ℕ) → ((i j : ℕ) → now i j ↔ Leads Mark first i j)
      → ((i j : ℕ) → new i j ↔ (now i j ⊎ (now i first × now first j))) → (i j : ℕ) → new i j ↔ Leads Mark (first + 1) i j
  one_stop_more now new first so_far pass i j = (λ mark. uncut first (there ((pass i j).0 mark)), λ walk. (pass i j).1 (back (cut first walk)))
    where
      there : now i j ⊎ (now i first × now first j) → IsCut first i j
      there (inl mark) = inl ((so_far i j).0 mark)
      there (inr both) = inr ((so_far i first).0 both.0, (so_far first j).0 both.1)

      back : IsCut first i j → now i j ⊎ (now i first × now first j)
      back (inl walk) = inl ((so_far i j).1 walk)
      back (inr both) = inr ((so_far i first).1 both.0, (so_far first j).1 both.1)

-- what is marked after a pass over a stop by the first places
abbrev pub IsPassed : (old : ℕ → ℕ → Type 0) (stop first i j : ℕ) → Type 0
IsPassed old stop first i j = old i j ⊎ ((i < first) × old i stop × old stop j)

module _ {old now : ℕ → ℕ → Type 0} (stop place : ℕ) (so_far : (i j : ℕ) → now i j ↔ IsPassed old stop place i j) where
  was : {j : ℕ} → IsPassed old stop place stop j → old stop j
  was (inl mark) = mark
  was (inr passed) = passed.2

  was_at : {j : ℕ} → IsPassed old stop place place j → old place j
  was_at (inl mark) = mark
  was_at (inr passed) = absurd (omega (arith, passed.0))

  later : {i j : ℕ} → IsPassed old stop place i j → IsPassed old stop (place + 1) i j
  later (inl mark) = inl mark
  later (inr passed) = inr (omega (arith, passed.0), passed.1, passed.2)

  -- a place that is marked at the stop is joined with it
  pub place_joined : (new : ℕ → ℕ → Type 0) → now place stop → ((i j : ℕ) → new i j ↔ (now i j ⊎ ((i ≡ place) × now stop j)))
      → (i j : ℕ) → new i j ↔ IsPassed old stop (place + 1) i j
  place_joined new marked join i j = (λ mark. there ((join i j).0 mark), λ passed. (join i j).1 (back passed))
    where
      there : now i j ⊎ ((i ≡ place) × now stop j) → IsPassed old stop (place + 1) i j
      there (inl mark) = later ((so_far i j).0 mark)
      there (inr both) =
          inr (omega (arith, both.0), subst (λ x. old x stop) (sym both.0) (was_at ((so_far place stop).0 marked)), was ((so_far stop j).0 both.1))

      by : (i ≡ place) ⊎ ((i < place) ⊎ (place < i)) → i < place + 1 → old i stop → old stop j → now i j ⊎ ((i ≡ place) × now stop j)
      by (inl at) below from to = inr (at, (so_far stop j).1 (inl to))
      by (inr (inl less)) below from to = inl ((so_far i j).1 (inr (less, from, to)))
      by (inr (inr more)) below from to = absurd (omega (arith, below, more))

      back : IsPassed old stop (place + 1) i j → now i j ⊎ ((i ≡ place) × now stop j)
      back (inl mark) = inl ((so_far i j).1 (inl mark))
      back (inr passed) = by (cases_order i place) passed.0 passed.1 passed.2

  -- a place that isn't stays as it is
  pub place_passed : (now place stop → ⊥) → (i j : ℕ) → now i j ↔ IsPassed old stop (place + 1) i j
  place_passed unmarked i j = (λ mark. later ((so_far i j).0 mark), back)
    where
      by : (i ≡ place) ⊎ ((i < place) ⊎ (place < i)) → i < place + 1 → old i stop → old stop j → now i j
      by (inl at) below from to = absurd (unmarked ((so_far place stop).1 (inl (subst (λ x. old x stop) at from))))
      by (inr (inl less)) below from to = (so_far i j).1 (inr (less, from, to))
      by (inr (inr more)) below from to = absurd (omega (arith, below, more))

      back : IsPassed old stop (place + 1) i j → now i j
      back (inl mark) = (so_far i j).1 (inl mark)
      back (inr passed) = by (cases_order i place) passed.0 passed.1 passed.2
