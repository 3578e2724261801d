-- The timers of a thread stand next to each other among the moments.
use Rattle.std.proofs.Common.{◌≡◌, ◌∙◌, ◌≤◌, ◌+◌, ◌&&◌, ◌||◌, ◌==◌, ℕ, Bool, true, false, List, [], ◌∷◌, get_or, Option, Some, None}
use Rattle.std.proofs.Common.{refl, sym, ap, subst, arith, rules}
use Rattle.std.proofs.lemmas.Bool.{le-leb, leb-true}
use Rattle.std.proofs.lemmas.List.Folds.{list_any_none}
use Rattle.std.proofs.lemmas.Map.Views.{exact_unsigned_eq}
use Rattle.std.specs.BTreeMap.Range.{IsInRange}
use Rattle.std.specs.Cmp.{nat_cmp_is, ranked}
use Rattle.std.specs.List.{All, list_any}
use Rattle.std.specs.Option.{IfNone, IfSome, IsSome, is_some}
use Rattle.std.specs.Ordering.{is_gt, nat_cmp, ordering_then}
use Rattle.std.specs.Prelude.{nat_le}
use Rattle.std.specs.declared.cmp.Ordering.{Ordering}
use Rattle.std.specs.declared.cmp.Ordering.TheVariants.{Less, Equal, Greater}
use Rattle.std.specs.declared.ops.Bound.TheVariants.{Included, Excluded}
use Rattle.tt_timers.specs.inside.Entries.{Agree, is_owned, is_up_to, moment_of, owner_cmp, owner_of, rank, spot_of}
use Rattle.tt_timers.specs.declared.spot.Owner.{Owner}
use Rattle.tt_timers.specs.declared.spot.Spot.{Spot}
use Rattle.tt_timers.specs.declared.spot.Waiting.{Waiting}
use Rattle.tt_timers.proofs.KeyLemmas.{same-owner}
use Rattle.tt_timers.proofs.SortLemmas.{found-any}

abbrev pub low : (thread : ℕ) → Owner
low thread = record { thread = thread; rank = 0; number = 0 }

abbrev pub high : (thread most : ℕ) → Owner
high thread most = record { thread = thread; rank = most + 1; number = 0 }

abbrev pub IsWithin : (thread most : ℕ) → Owner → Type 0
IsWithin thread most owner = IsInRange owner_cmp (Included (low thread)) (Excluded (high thread most)) owner

self : (a b : ℕ) → a ≡ b → nat_cmp a b ≡ Equal
self a b same = sym (nat_cmp_is a b Equal same)

not-above : (n : ℕ) (rest : Ordering) → is_gt rest ≡ false → is_gt (ordering_then (nat_cmp 0 n) rest) ≡ false
not-above n rest later = go (nat_cmp 0 n) refl
  where
    go : (by : Ordering) → nat_cmp 0 n ≡ by → is_gt (ordering_then (nat_cmp 0 n) rest) ≡ false
    go Less e = rw e refl
    go Equal e = rw e later
    go Greater e = absurd (omega (arith, ranked 0 n Greater (sym e)))

zero-first : (n : ℕ) → is_gt (nat_cmp 0 n) ≡ false
zero-first n = go (nat_cmp 0 n) refl
  where
    go : (by : Ordering) → nat_cmp 0 n ≡ by → is_gt (nat_cmp 0 n) ≡ false
    go Less e = rw e refl
    go Equal e = rw e refl
    go Greater e = absurd (omega (arith, ranked 0 n Greater (sym e)))

within : (thread most : ℕ) (owner : Owner) → owner.thread ≡ thread → owner.rank ≤ most → IsWithin thread most owner
within thread most owner same small = (from, up)
  where
    from : is_gt (owner_cmp (low thread) owner) ≡ false
    from = rw (self thread owner.thread (sym same)) (not-above owner.rank (nat_cmp 0 owner.number) (zero-first owner.number))

    up : owner_cmp owner (high thread most) ≡ Less
    up = rw (self owner.thread thread same, sym (nat_cmp_is owner.rank (most + 1) Less (omega (arith, small)))) refl

-- what is within is of the thread and of no higher rank
pub of-thread : (thread most : ℕ) (owner : Owner) → IsWithin thread most owner → owner.thread ≡ thread
of-thread thread most owner is = go (nat_cmp thread owner.thread) (nat_cmp owner.thread thread) refl refl
  where
    go : (a b : Ordering) → nat_cmp thread owner.thread ≡ a → nat_cmp owner.thread thread ≡ b → owner.thread ≡ thread
    go Equal b e f = sym (ranked thread owner.thread Equal (sym e))
    go Greater b e f = absurd (let above : is_gt (owner_cmp (low thread) owner) ≡ true = rw e refl in cc (above, is.0))
    go Less b e f =
        let greater : nat_cmp owner.thread thread ≡ Greater = sym (nat_cmp_is owner.thread thread Greater (ranked thread owner.thread Less (sym e))) in
        absurd (let past : owner_cmp owner (high thread most) ≡ Greater = rw greater refl in cc (past, is.1))

pub of-rank : (thread most : ℕ) (owner : Owner) → IsWithin thread most owner → owner.rank ≤ most
of-rank thread most owner is = go (nat_cmp owner.rank (most + 1)) refl
  where
    same : nat_cmp owner.thread thread ≡ Equal
    same = self owner.thread thread (of-thread thread most owner is)

    go : (by : Ordering) → nat_cmp owner.rank (most + 1) ≡ by → owner.rank ≤ most
    go Less e = omega (arith, ranked owner.rank (most + 1) Less (sym e))
    go Greater e = absurd (let past : owner_cmp owner (high thread most) ≡ Greater = rw (same, e) refl in cc (past, is.1))
    go Equal e = by (nat_cmp owner.number 0) refl
      where
        by : (number : Ordering) → nat_cmp owner.number 0 ≡ number → owner.rank ≤ most
        by Less f = absurd (omega (arith, ranked owner.number 0 Less (sym f)))
        by Equal f = absurd (let past : owner_cmp owner (high thread most) ≡ Equal = rw (same, e, f) refl in cc (past, is.1))
        by Greater f = absurd (let past : owner_cmp owner (high thread most) ≡ Greater = rw (same, e, f) refl in cc (past, is.1))

both-true : (a b : Bool) → (a && b) ≡ true → (a ≡ true) × (b ≡ true)
both-true true true e = (refl, refl)
both-true true false e = absurd (cc e)
both-true false b e = absurd (cc e)

-- an entry of the thread and of no higher rank is within
pub entry-within : (thread most : ℕ) (entry : Spot × Waiting) → is_up_to thread most entry ≡ true → IsWithin thread most (owner_of entry)
entry-within thread most entry is =
    let both = both-true (entry.1.thread == thread) (nat_le (rank entry.1.kind) most) is in
    within thread most (owner_of entry) (exact_unsigned_eq entry.1.thread thread both.0) (leb-true (rank entry.1.kind) most both.1)

pub none-up-to : (thread most : ℕ) (timers : List (Spot × Waiting)) (moments : List (Owner × ℕ)) → Agree timers moments →
    ((owner : Owner) → IsWithin thread most owner → moment_of moments owner ≡ None) → All (λ entry. is_up_to thread most entry ≡ false) timers
none-up-to thread most timers moments agree none = λ k d l. go (get_or timers k d) (agree.listed k d l) (is_up_to thread most (get_or timers k d)) refl
  where
    go : (entry : Spot × Waiting) → moment_of moments (owner_of entry) ≡ Some entry.0.moment → (up : Bool) → is_up_to thread most entry ≡ up →
        is_up_to thread most entry ≡ false
    go entry listed true e = absurd (let gone = none (owner_of entry) (entry-within thread most entry e) in cc (listed, gone))
    go entry listed false e = e

-- the owner's entry is of its thread and of its rank
pub owned-up-to : (thread most : ℕ) (owner : Owner) → owner.thread ≡ thread → owner.rank ≤ most → (entry : Spot × Waiting) → is_owned owner entry ≡ true →
    is_up_to thread most entry ≡ true
owned-up-to thread most owner same small entry owned =
    let owners : owner ≡ owner_of entry = same-owner owner (owner_of entry) owned in
    let threads : entry.1.thread ≡ thread = ap (λ one. one.thread) (sym owners) ∙ same in
    let ranks : rank entry.1.kind ≤ most = subst (λ one. one.rank ≤ most) owners small in
    and-true (entry.1.thread == thread) (nat_le (rank entry.1.kind) most) (is-same entry.1.thread thread threads) (le-leb (rank entry.1.kind) most ranks)
  where
    and-true : (a b : Bool) → a ≡ true → b ≡ true → (a && b) ≡ true
    and-true a b e f = rw (e, f) refl

    is-same : (a b : ℕ) → a ≡ b → (a == b) ≡ true
    is-same a b e = search (rules, e)

any-wider : {X : Type 0} (narrow wide : X → Bool) → ((x : X) → narrow x ≡ true → wide x ≡ true) → (xs : List X) → list_any narrow xs ≡ true →
    list_any wide xs ≡ true
any-wider narrow wide so [] any = absurd (cc any)
any-wider narrow wide so (x ∷ xs) any = go (any-wider narrow wide so xs) (narrow x) (wide x) refl refl
  where
    go : (list_any narrow xs ≡ true → list_any wide xs ≡ true) → (n w : Bool) → narrow x ≡ n → wide x ≡ w → (wide x || list_any wide xs) ≡ true
    go rest n true e f = rw f refl
    go rest true false e f = absurd (let is : wide x ≡ true = so x e in cc (f, is))
    go rest false false e f =
        let later : (narrow x || list_any narrow xs) ≡ list_any narrow xs = rw e refl in rw f (rest (sym later ∙ any))

-- whether an entry is found tells whether there is one
pub any-up-to : (thread most : ℕ) (timers : List (Spot × Waiting)) (moments : List (Owner × ℕ)) → Agree timers moments → (found : Option Owner) →
    IfSome found (λ owner. IsSome (moment_of moments owner)) → IfSome found (λ owner. owner.thread ≡ thread) → IfSome found (λ owner. owner.rank ≤ most) →
    IfNone found (All (λ entry. is_up_to thread most entry ≡ false) timers) → is_some found ≡ list_any (is_up_to thread most) timers
any-up-to thread most timers moments agree None kept same small none = sym (list_any_none (is_up_to thread most) timers none)
any-up-to thread most timers moments agree (Some owner) kept same small none = go (moment_of moments owner) refl kept
  where
    go : (moment : Option ℕ) → moment_of moments owner ≡ moment → IsSome moment → true ≡ list_any (is_up_to thread most) timers
    go None e there = absurd (search (rules, there))
    go (Some moment) e there =
        sym (any-wider (is_owned owner) (is_up_to thread most) (owned-up-to thread most owner same small) timers
        (found-any timers (spot_of owner moment) owner (agree.kept owner moment e)))
