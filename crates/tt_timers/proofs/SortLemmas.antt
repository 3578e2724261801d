-- Entries in order: what a removed key takes out, and what a look-up says of all.
use Rattle.std.proofs.Common.{◌≡◌, ◌∙◌, ◌<◌, ◌||◌, ℕ, Bool, true, false, not, List, [], ◌∷◌, Some, None}
use Rattle.std.proofs.Common.{refl, sym, ap, subst}
use Rattle.std.proofs.lemmas.List.Elements.{All-cons, All-head, All-nil, All-tail}
use Rattle.std.specs.BTreeMap.{is_at}
use Rattle.std.specs.List.{All, filter, list_any}
use Rattle.std.specs.Map.{keys_of, lookup, remove_entry}
use Rattle.std.specs.Ordering.{is_eq}
use Rattle.tt_timers.specs.inside.Entries.{is_owned, owner_at, owner_cmp, owner_of, spot_cmp, without_owned}
use Rattle.tt_timers.specs.declared.spot.Owner.{Owner}
use Rattle.tt_timers.specs.declared.spot.Spot.{Spot}
use Rattle.tt_timers.specs.declared.spot.Waiting.{Waiting}
use Rattle.tt_timers.proofs.KeyLemmas.{owner-self, same-spot, spot-self}

pub each : {X : Type 0} (P Q R : X → Type 0) → ((x : X) → P x → Q x → R x) → (xs : List X) → All P xs → All Q xs → All R xs
each P Q R so xs ps qs = λ k d l. so _ (ps k d l) (qs k d l)

pub some-value : {X : Type 0} (x y : X) → Some x ≡ Some y → x ≡ y
some-value x y e = cc e

-- what holds of all keys holds of all entries
pub of-entries : {K X : Type 0} (P : K → Type 0) (entries : List (K × X)) → All P (keys_of entries) → All (λ entry. P entry.0) entries
of-entries P [] all = All-nil (λ entry. P entry.0)
of-entries P (entry ∷ entries) all =
    All-cons (λ entry. P entry.0) entry entries (All-head P entry.0 (keys_of entries) all) (of-entries P entries (All-tail P entry.0 (keys_of entries) all))

-- ---- filters ----

pub filter-none : {X : Type 0} (test : X → Bool) (xs : List X) → All (λ x. test x ≡ false) xs → filter (λ x. not (test x)) xs ≡ xs
filter-none test [] none = refl
filter-none test (x ∷ xs) none =
    rw (All-head (λ x. test x ≡ false) x xs none) (ap (λ rest. x ∷ rest) (filter-none test xs (All-tail (λ x. test x ≡ false) x xs none)))

-- what the narrower filter takes out, the wider one does
pub filter-wider : {X : Type 0} (narrow wide : X → Bool) → ((x : X) → narrow x ≡ true → wide x ≡ true) → (xs : List X) →
    filter (λ x. not (wide x)) (filter (λ x. not (narrow x)) xs) ≡ filter (λ x. not (wide x)) xs
filter-wider narrow wide so [] = refl
filter-wider {X} narrow wide so (x ∷ xs) = go (filter-wider narrow wide so xs) (narrow x) (wide x) refl refl
  where
    go : filter (λ x. not (wide x)) (filter (λ x. not (narrow x)) xs) ≡ filter (λ x. not (wide x)) xs → (n w : Bool) → narrow x ≡ n → wide x ≡ w →
        filter (λ x. not (wide x)) (filter (λ x. not (narrow x)) (x ∷ xs)) ≡ filter (λ x. not (wide x)) (x ∷ xs)
    go rest true true e f = rw (e, f) rest
    go rest true false e f = absurd (let is : wide x ≡ true = so x e in cc (f, is))
    go rest false true e f = rw (e, f) rest
    go rest false false e f = rw (e, f) (ap (λ rest. x ∷ rest) rest)

-- ---- look-ups ----

at-first : (entry : Spot × Waiting) (entries : List (Spot × Waiting)) (spot : Spot) → is_at (spot_cmp spot) entry.0 ≡ true →
    owner_at (entry ∷ entries) spot ≡ Some (owner_of (spot, entry.1))
at-first entry entries spot e = rw e refl

at-later : (entry : Spot × Waiting) (entries : List (Spot × Waiting)) (spot : Spot) → is_at (spot_cmp spot) entry.0 ≡ false →
    owner_at (entry ∷ entries) spot ≡ owner_at entries spot
at-later entry entries spot e = rw e refl

-- the entry of a spot that is the owner's
first-owned : (entry : Spot × Waiting) (entries : List (Spot × Waiting)) (spot : Spot) (owner : Owner) → is_at (spot_cmp spot) entry.0 ≡ true →
    owner_at (entry ∷ entries) spot ≡ Some owner → is_owned owner entry ≡ true
first-owned entry entries spot owner e is =
    let same : spot ≡ entry.0 = same-spot spot entry.0 e in
    let owned : owner_of (entry.0, entry.1) ≡ owner =
    some-value (owner_of (entry.0, entry.1)) owner (subst (λ one. Some (owner_of (one, entry.1)) ≡ Some owner) same (sym
    (at-first entry entries spot e) ∙ is)) in
    subst (λ one. is_at (owner_cmp owner) one ≡ true) (sym owned) (ap is_eq (owner-self owner))

-- a spot that is found is below a bound of all
pub found-below : (bound : ℕ) (entries : List (Spot × Waiting)) (spot : Spot) (owner : Owner) → All (λ one. one.number < bound) (keys_of entries) →
    owner_at entries spot ≡ Some owner → spot.number < bound
found-below bound [] spot owner below is = absurd (cc is)
found-below bound (entry ∷ entries) spot owner below is =
    go (found-below bound entries spot owner (All-tail (λ one. one.number < bound) entry.0 (keys_of entries) below)) (is_at (spot_cmp spot) entry.0) refl
  where
    go : (owner_at entries spot ≡ Some owner → spot.number < bound) → (at : Bool) → is_at (spot_cmp spot) entry.0 ≡ at → spot.number < bound
    go rest true e =
        subst (λ one. one.number < bound) (sym (same-spot spot entry.0 e)) (All-head (λ one. one.number < bound) entry.0 (keys_of entries) below)
    go rest false e = rest (sym (at-later entry entries spot e) ∙ is)

or-true : (b : Bool) → (b || true) ≡ true
or-true true = refl
or-true false = refl

-- an entry that is found is among them
pub found-any : (entries : List (Spot × Waiting)) (spot : Spot) (owner : Owner) → owner_at entries spot ≡ Some owner → list_any
    (is_owned owner) entries ≡ true
found-any [] spot owner is = absurd (cc is)
found-any (entry ∷ entries) spot owner is = go (found-any entries spot owner) (is_at (spot_cmp spot) entry.0) refl
  where
    go : (owner_at entries spot ≡ Some owner → list_any (is_owned owner) entries ≡ true) → (at : Bool) → is_at (spot_cmp spot) entry.0 ≡ at →
        (is_owned owner entry || list_any (is_owned owner) entries) ≡ true
    go rest true e = rw (first-owned entry entries spot owner e is) refl
    go rest false e = rw (rest (sym (at-later entry entries spot e) ∙ is)) (or-true (is_owned owner entry))

-- ---- a key that goes ----

-- where no entry is at a spot, none is the owner's of that spot
none-at : (spot : Spot) (owner : Owner) (entries : List (Spot × Waiting)) → lookup (is_at (spot_cmp spot)) entries ≡ None →
    All (λ entry. is_owned owner entry ≡ true → entry.0 ≡ spot) entries → All (λ entry. is_owned owner entry ≡ false) entries
none-at spot owner [] none one = All-nil (λ entry. is_owned owner entry ≡ false)
none-at spot owner (entry ∷ entries) none one =
    go (λ later. none-at spot owner entries later (All-tail (λ entry. is_owned owner entry ≡ true → entry.0 ≡ spot) entry entries one))
    (is_at (spot_cmp spot) entry.0) (is_owned owner entry) refl refl
  where
    go : (lookup (is_at (spot_cmp spot)) entries ≡ None → All (λ entry. is_owned owner entry ≡ false) entries) → (at owned : Bool) →
        is_at (spot_cmp spot) entry.0 ≡ at → is_owned owner entry ≡ owned → All (λ entry. is_owned owner entry ≡ false) (entry ∷ entries)
    go rest true owned e f = absurd (let there : lookup (is_at (spot_cmp spot)) (entry ∷ entries) ≡ Some entry.1 = rw e refl in cc (there, none))
    go rest false true e f =
        let same : entry.0 ≡ spot = All-head (λ entry. is_owned owner entry ≡ true → entry.0 ≡ spot) entry entries one f in
        let equal : is_at (spot_cmp spot) entry.0 ≡ true = subst (λ other. is_at (spot_cmp spot) other ≡ true) (sym same) (ap is_eq (spot-self spot)) in
        absurd (cc (e, equal))
    go rest false false e f =
        let later : lookup (is_at (spot_cmp spot)) (entry ∷ entries) ≡ lookup (is_at (spot_cmp spot)) entries = rw e refl in
        All-cons (λ entry. is_owned owner entry ≡ false) entry entries f (rest (sym later ∙ none))

-- the entry of a spot that is the owner's is the only one of the owner, where its spot is free without it
pub removed-is : (entries : List (Spot × Waiting)) (spot : Spot) (owner : Owner) → All (λ entry. is_owned owner entry ≡ true → entry.0 ≡ spot) entries →
    owner_at entries spot ≡ Some owner → lookup (is_at (spot_cmp spot)) (remove_entry (is_at (spot_cmp spot)) entries) ≡ None →
    remove_entry (is_at (spot_cmp spot)) entries ≡ without_owned owner entries
removed-is [] spot owner one is free = refl
removed-is (entry ∷ entries) spot owner one is free =
    go (removed-is entries spot owner (All-tail (λ entry. is_owned owner entry ≡ true → entry.0 ≡ spot) entry entries one))
    (is_at (spot_cmp spot) entry.0) refl
  where
    go : (owner_at entries spot ≡ Some owner → lookup (is_at (spot_cmp spot)) (remove_entry (is_at (spot_cmp spot)) entries) ≡ None →
        remove_entry (is_at (spot_cmp spot)) entries ≡ without_owned owner entries) → (at : Bool) → is_at (spot_cmp spot) entry.0 ≡ at →
        remove_entry (is_at (spot_cmp spot)) (entry ∷ entries) ≡ without_owned owner (entry ∷ entries)
    go rest true e =
        let gone : remove_entry (is_at (spot_cmp spot)) (entry ∷ entries) ≡ entries = rw e refl in
        let none = none-at spot owner entries (ap (lookup (is_at (spot_cmp spot))) (sym gone) ∙ free)
        (All-tail (λ entry. is_owned owner entry ≡ true → entry.0 ≡ spot) entry entries one) in
        rw (e, first-owned entry entries spot owner e is) (sym (filter-none (is_owned owner) entries none))
    go rest false e = by (is_owned owner entry) refl
      where
        by : (owned : Bool) → is_owned owner entry ≡ owned → remove_entry (is_at (spot_cmp spot)) (entry ∷ entries) ≡ without_owned owner (entry ∷ entries)
        by true f =
            let same : entry.0 ≡ spot = All-head (λ entry. is_owned owner entry ≡ true → entry.0 ≡ spot) entry entries one f in
            let equal : is_at (spot_cmp spot) entry.0 ≡ true = subst (λ other. is_at (spot_cmp spot) other ≡ true) (sym same) (ap is_eq (spot-self spot)) in
            absurd (cc (e, equal))
        by false f =
            let later : lookup (is_at (spot_cmp spot)) (remove_entry (is_at (spot_cmp spot)) (entry ∷ entries)) ≡
            lookup (is_at (spot_cmp spot)) (remove_entry (is_at (spot_cmp spot)) entries) = rw (e, e) refl in
            rw (e, f) (ap (λ rest. entry ∷ rest) (rest (sym (at-later entry entries spot e) ∙ is) (sym later ∙ free)))
