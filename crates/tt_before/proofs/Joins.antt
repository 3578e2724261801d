-- Rows that are joined.
use Rattle.std.proofs.Common.{◌≡◌, ◌∙◌, ℕ, zero, suc, ◌+◌, ◌<◌, ◌≤◌, ◌⊎◌, ◌↔◌, Bool, true, false, cond, List, [], ◌∷◌, ◌++◌, Option, Some, None}
use Rattle.std.proofs.Common.{length, set, take, slice_index, refl, sym, ap, subst, inl, inr, arith}
use Rattle.std.specs.List.{Contains}
use Rattle.std.proofs.lemmas.Bool.{cases_order}
use Rattle.std.proofs.lemmas.List.Elements.{Contains-append_left, Contains-push, Contains-push_cases}
use Rattle.tt_before.specs.declared.object.Object.{Object}
use Rattle.tt_before.specs.inside.Clocks.{AreJoined, IsJoin, IsJoinOf, IsOneKnowing}
use Rattle.tt_before.specs.inside.Kept.{is_same}
use Rattle.tt_before.proofs.Same.{of_same, to_same}

-- ---- a number that is raised ----

at_set : (row : List ℕ) (place v : ℕ) → place < length row → slice_index (set row place v) place ≡ v
at_set [] place v within = absurd (omega (arith, within))
at_set (x ∷ row) zero v within = refl
at_set (x ∷ row) (suc place) v within = at_set row place v (omega (arith, within))

off_set : (row : List ℕ) (place v t : ℕ) → (t ≡ place → ⊥) → slice_index (set row place v) t ≡ slice_index row t
off_set [] place v t differ = refl
off_set (x ∷ row) zero v zero differ = absurd (differ refl)
off_set (x ∷ row) zero v (suc t) differ = refl
off_set (x ∷ row) (suc place) v zero differ = refl
off_set (x ∷ row) (suc place) v (suc t) differ = off_set row place v t (λ eq. differ (ap suc eq))

abbrev pub IsRaised : (after before : List ℕ) (place least : ℕ) → Type 0
IsRaised after before place least =
    (t n : ℕ) → n ≤ slice_index after t ↔ (n ≤ slice_index before t ⊎ ((t ≡ place) × (n ≤ least)))

pub raised : (row : List ℕ) (place least : ℕ) → place < length row → slice_index row place < least → IsRaised (set row place least) row place least
raised row place least within less t n = by (cases_order t place)
  where
    at : t ≡ place → n ≤ slice_index (set row place least) t ↔ (n ≤ slice_index row t ⊎ ((t ≡ place) × (n ≤ least)))
    at eq = (λ small. inr (eq, omega (arith, small, there)), back)
      where
        there : slice_index (set row place least) t ≡ least
        there = ap (slice_index (set row place least)) eq ∙ at_set row place least within

        back : n ≤ slice_index row t ⊎ ((t ≡ place) × (n ≤ least)) → n ≤ slice_index (set row place least) t
        back (inl small) = let was : slice_index row t ≡ slice_index row place = ap (slice_index row) eq in omega (arith, small, was, less, there)
        back (inr both) = let small = both.1 in omega (arith, small, there)

    off : (t ≡ place → ⊥) → n ≤ slice_index (set row place least) t ↔ (n ≤ slice_index row t ⊎ ((t ≡ place) × (n ≤ least)))
    off differ = (λ small. inl (omega (arith, small, same)), back)
      where
        same : slice_index (set row place least) t ≡ slice_index row t
        same = off_set row place least t differ

        back : n ≤ slice_index row t ⊎ ((t ≡ place) × (n ≤ least)) → n ≤ slice_index (set row place least) t
        back (inl small) = omega (arith, small, same)
        back (inr both) = absurd (differ both.0)

    by : (t ≡ place) ⊎ ((t < place) ⊎ (place < t)) → n ≤ slice_index (set row place least) t ↔ (n ≤ slice_index row t ⊎ ((t ≡ place) × (n ≤ least)))
    by (inl eq) = at eq
    by (inr (inl less)) = off (λ eq. omega (arith, less, eq))
    by (inr (inr more)) = off (λ eq. omega (arith, more, eq))

pub not_raised : (row : List ℕ) (place least : ℕ) → least ≤ slice_index row place → IsRaised row row place least
not_raised row place least most t n = (λ small. inl small, back)
  where
    back : n ≤ slice_index row t ⊎ ((t ≡ place) × (n ≤ least)) → n ≤ slice_index row t
    back (inl small) = small
    back (inr both) =
        let small = both.1 in
        let was : slice_index row t ≡ slice_index row place = ap (slice_index row) both.0 in
        omega (arith, small, was, most)

-- ---- a row that is joined with another, by the first threads ----

abbrev pub IsJoinedUpTo : (first : ℕ) (after before other : List ℕ) → Type 0
IsJoinedUpTo first after before other =
    (t n : ℕ) → n ≤ slice_index after t ↔ (n ≤ slice_index before t ⊎ ((t < first) × (n ≤ slice_index other t)))

pub joined_more : (first : ℕ) (after now before other : List ℕ) (v : ℕ) → v ≡ slice_index other first → IsJoinedUpTo first now before other →
    IsRaised after now first v →
    IsJoinedUpTo (first + 1) after before other
joined_more first after now before other v is so_far raise t n = (λ small. there ((raise t n).0 small), λ either. (raise t n).1 (back either))
  where
    early : n ≤ slice_index before t ⊎ ((t < first) × (n ≤ slice_index other t)) → n ≤ slice_index before t ⊎ ((t < first + 1) × (n ≤ slice_index other t))
    early (inl small) = inl small
    early (inr both) = let less = both.0 in inr (omega (arith, less), both.1)

    there : n ≤ slice_index now t ⊎ ((t ≡ first) × (n ≤ v)) → n ≤ slice_index before t ⊎ ((t < first + 1) × (n ≤ slice_index other t))
    there (inl small) = early ((so_far t n).0 small)
    there (inr both) =
        let eq = both.0 in
        let small = both.1 in
        let at : slice_index other t ≡ slice_index other first = ap (slice_index other) eq in
        inr (omega (arith, eq), omega (arith, small, is, at))

    last : (t ≡ first) ⊎ ((t < first) ⊎ (first < t)) → t < first + 1 → n ≤ slice_index other t → n ≤ slice_index now t ⊎ ((t ≡ first) × (n ≤ v))
    last (inl eq) less small = let at : slice_index other t ≡ slice_index other first = ap (slice_index other) eq in inr (eq, omega (arith, small, is, at))
    last (inr (inl before_it)) less small = inl ((so_far t n).1 (inr (before_it, small)))
    last (inr (inr after_it)) less small = absurd (omega (arith, less, after_it))

    back : n ≤ slice_index before t ⊎ ((t < first + 1) × (n ≤ slice_index other t)) → n ≤ slice_index now t ⊎ ((t ≡ first) × (n ≤ v))
    back (inl small) = inl ((so_far t n).1 (inl small))
    back (inr both) = last (cases_order t first) both.0 both.1

pub joined_none : (before other : List ℕ) → IsJoinedUpTo 0 before before other
joined_none before other t n = (λ small. inl small, back)
  where
    back : n ≤ slice_index before t ⊎ ((t < 0) × (n ≤ slice_index other t)) → n ≤ slice_index before t
    back (inl small) = small
    back (inr both) = let less = both.0 in absurd (omega (arith, less))

past_end : (xs : List ℕ) (t : ℕ) → length xs ≤ t → slice_index xs t ≡ 0
past_end [] t past = refl
past_end (x ∷ xs) zero past = absurd (omega (arith, past))
past_end (x ∷ xs) (suc t) past = past_end xs t (omega (arith, past))

-- by all threads
pub joined_all : (first : ℕ) (after before other : List ℕ) → length other ≤ first → IsJoinedUpTo first after before other →
    IsJoin (slice_index after) (slice_index before) (slice_index other)
joined_all first after before other all so_far t n = (λ small. there ((so_far t n).0 small), λ either. (so_far t n).1 (back either))
  where
    there : n ≤ slice_index before t ⊎ ((t < first) × (n ≤ slice_index other t)) → n ≤ slice_index before t ⊎ n ≤ slice_index other t
    there (inl small) = inl small
    there (inr both) = inr both.1

    by : (t ≡ first) ⊎ ((t < first) ⊎ (first < t)) → n ≤ slice_index other t → n ≤ slice_index before t ⊎ ((t < first) × (n ≤ slice_index other t))
    by (inr (inl less)) small = inr (less, small)
    by (inl eq) small = let none = past_end other t (omega (arith, all, eq)) in inl (omega (arith, small, none))
    by (inr (inr more)) small = let none = past_end other t (omega (arith, all, more)) in inl (omega (arith, small, none))

    back : n ≤ slice_index before t ⊎ n ≤ slice_index other t → n ≤ slice_index before t ⊎ ((t < first) × (n ≤ slice_index other t))
    back (inl small) = inl small
    back (inr small) = by (cases_order t first) small

-- where the row was made longer before
pub joined_from : (after before start : ℕ → ℕ) (other : ℕ → ℕ) → ((t : ℕ) → before t ≡ start t) → IsJoin after before other → IsJoin after start other
joined_from after before start other same join t n = (λ small. there ((join t n).0 small), λ either. (join t n).1 (back either))
  where
    there : n ≤ before t ⊎ n ≤ other t → n ≤ start t ⊎ n ≤ other t
    there (inl small) = let eq = same t in inl (omega (arith, small, eq))
    there (inr small) = inr small

    back : n ≤ start t ⊎ n ≤ other t → n ≤ before t ⊎ n ≤ other t
    back (inl small) = let eq = same t in inl (omega (arith, small, eq))
    back (inr small) = inr small

-- a join with nothing
pub join_nothing : (row : ℕ → ℕ) → IsJoin row row (λ t. 0)
join_nothing row t n = (λ small. inl small, back)
  where
    back : n ≤ row t ⊎ n ≤ 0 → n ≤ row t
    back (inl small) = small
    back (inr none) = omega (arith, none)

-- ---- what the clocks of objects have ----

pub take_none : (clock : Object → ℕ → ℕ) (row : ℕ → ℕ) → ((t : ℕ) → row t ≡ 0) → IsJoinOf row clock []
take_none clock row none t n some = (
  λ small. let zero_is = none t in absurd (omega
      (arith, small, some, zero_is)),
  λ one. let listed = one.listed in absurd (let within = listed.1 in omega (arith, within)),
)

pub take_more_of : (clock : Object → ℕ → ℕ) (after before : ℕ → ℕ) (objects : List Object) (object : Object) → IsJoinOf before clock objects →
    IsJoin after before (clock object) → IsJoinOf after clock (objects ++ object ∷ [])
take_more_of clock after before objects object so_far join t n some = (
  λ small. there ((join t n).0 small),
  λ one. (join t n).1 (back one
      (Contains-push_cases objects object one.object one.listed)),
)
  where
    longer : IsOneKnowing clock objects t n → IsOneKnowing clock (objects ++ object ∷ []) t n
    longer one = record { object = one.object; listed = Contains-append_left objects (object ∷ []) one.object one.listed; knows = one.knows }

    there : n ≤ before t ⊎ n ≤ clock object t → IsOneKnowing clock (objects ++ object ∷ []) t n
    there (inl small) = longer ((so_far t n some).0 small)
    there (inr small) = record { object = object; listed = Contains-push objects object; knows = small }

    back : (one : IsOneKnowing clock (objects ++ object ∷ []) t n) → Contains objects one.object ⊎ (object ≡ one.object) → n ≤ before t ⊎ n ≤ clock object t
    back one (inl listed) = inl ((so_far t n some).1 (record { object = one.object; listed = listed; knows = one.knows }))
    back one (inr eq) = inr (subst (λ o. n ≤ clock o t) (sym eq) one.knows)

-- ---- clocks that are joined ----

pub give_none : (clock : Object → ℕ → ℕ) (row : ℕ → ℕ) → AreJoined clock clock [] row
give_none clock row object t n = (λ small. inl small, back)
  where
    back : n ≤ clock object t ⊎ (Contains [] object × (n ≤ row t)) → n ≤ clock object t
    back (inl small) = small
    back (inr both) = let listed = both.0 in absurd (let within = listed.1 in omega (arith, within))

pub give_more : (after now before : Object → ℕ → ℕ) (objects : List Object) (object : Object) (row : ℕ → ℕ) → AreJoined now before objects row →
    AreJoined after now (object ∷ []) row → AreJoined after before (objects ++ object ∷ []) row
give_more after now before objects object row so_far one other t n = (λ small. there ((one other t n).0 small), λ either. (one other t n).1 (back either))
  where
    early : n ≤ before other t ⊎ (Contains objects other × (n ≤ row t)) → n ≤ before other t ⊎ (Contains (objects ++ object ∷ []) other × (n ≤ row t))
    early (inl small) = inl small
    early (inr both) = inr (Contains-append_left objects (object ∷ []) other both.0, both.1)

    alone : Contains (object ∷ []) other → Contains (objects ++ object ∷ []) other
    alone listed = by (Contains-push_cases [] object other listed)
      where
        by : Contains [] other ⊎ (object ≡ other) → Contains (objects ++ object ∷ []) other
        by (inl none) = absurd (let within = none.1 in omega (arith, within))
        by (inr eq) = subst (λ o. Contains (objects ++ object ∷ []) o) eq (Contains-push objects object)

    there : n ≤ now other t ⊎ (Contains (object ∷ []) other × (n ≤ row t)) → n ≤ before other t ⊎ (Contains (objects ++ object ∷ []) other × (n ≤ row t))
    there (inl small) = early ((so_far other t n).0 small)
    there (inr both) = inr (alone both.0, both.1)

    by : Contains objects other ⊎ (object ≡ other) → n ≤ row t → n ≤ now other t ⊎ (Contains (object ∷ []) other × (n ≤ row t))
    by (inl listed) small = inl ((so_far other t n).1 (inr (listed, small)))
    by (inr eq) small = inr (subst (λ o. Contains (object ∷ []) o) eq (Contains-push [] object), small)

    back : n ≤ before other t ⊎ (Contains (objects ++ object ∷ []) other × (n ≤ row t)) → n ≤ now other t ⊎ (Contains (object ∷ []) other × (n ≤ row t))
    back (inl small) = inl ((so_far other t n).1 (inl small))
    back (inr both) = by (Contains-push_cases objects object other both.0) both.1

-- the clock of one object alone is joined with a row
pub give_alone : (after before : Object → ℕ → ℕ) (object : Object) (known row : ℕ → ℕ) → IsJoin known (before object) row →
    ((other : Object) → after other ≡ cond (is_same object other) known (before other)) → AreJoined after before (object ∷ []) row
give_alone after before object known row join updates other t n = by (is_same object other) refl
  where
    changed : object ≡ other → n ≤ known t ↔ (n ≤ before other t ⊎ (Contains (object ∷ []) other × (n ≤ row t)))
    changed eq = (λ small. there ((join t n).0 small), λ either. (join t n).1 (back either))
      where
        there : n ≤ before object t ⊎ n ≤ row t → n ≤ before other t ⊎ (Contains (object ∷ []) other × (n ≤ row t))
        there (inl small) = inl (subst (λ o. n ≤ before o t) eq small)
        there (inr small) = inr (subst (λ o. Contains (object ∷ []) o) eq (Contains-push [] object), small)

        back : n ≤ before other t ⊎ (Contains (object ∷ []) other × (n ≤ row t)) → n ≤ before object t ⊎ n ≤ row t
        back (inl small) = inl (subst (λ o. n ≤ before o t) (sym eq) small)
        back (inr both) = inr both.1

    unchanged : (object ≡ other → ⊥) → n ≤ before other t ↔ (n ≤ before other t ⊎ (Contains (object ∷ []) other × (n ≤ row t)))
    unchanged differ = (λ small. inl small, back)
      where
        alone : Contains [] other ⊎ (object ≡ other) → ⊥
        alone (inl none) = let within = none.1 in omega (arith, within)
        alone (inr eq) = differ eq

        back : n ≤ before other t ⊎ (Contains (object ∷ []) other × (n ≤ row t)) → n ≤ before other t
        back (inl small) = small
        back (inr both) = absurd (alone (Contains-push_cases [] object other both.0))

    by : (b : Bool) → is_same object other ≡ b → n ≤ after other t ↔ (n ≤ before other t ⊎ (Contains (object ∷ []) other × (n ≤ row t)))
    by true is =
        subst (λ (f : ℕ → ℕ). n ≤ f t ↔ (n ≤ before other t ⊎ (Contains (object ∷ []) other × (n ≤ row t))))
        (sym (updates other ∙ ap (λ b. cond b known (before other)) is)) (changed (to_same object other is))
    by false is =
        subst (λ (f : ℕ → ℕ). n ≤ f t ↔ (n ≤ before other t ⊎ (Contains (object ∷ []) other × (n ≤ row t))))
        (sym (updates other ∙ ap (λ b. cond b known (before other)) is))
        (unchanged (λ eq. let no : true ≡ false = sym (of_same object) ∙ ap (is_same object) eq ∙ is in absurd (cc no)))

pub put_back : {V : Type 0} {F : Type 0} (f : Option V → F) (b : Bool) (v : V) (before : Option V) →
    f (cond b (Some v) (cond b None before)) ≡ cond b (f (Some v)) (f before)
put_back f true v before = refl
put_back f false v before = refl

pub all_taken : {X : Type 0} (xs : List X) (i : ℕ) → length xs ≤ i → take i xs ≡ xs
all_taken [] zero past = refl
all_taken [] (suc i) past = refl
all_taken (x ∷ xs) zero past = absurd (omega (arith, past))
all_taken (x ∷ xs) (suc i) past = ap (λ ys. x ∷ ys) (all_taken xs i (omega (arith, past)))
