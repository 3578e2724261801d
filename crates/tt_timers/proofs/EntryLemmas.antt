-- The entries of the map, seen as the timers that are pending.
use Rattle.std.proofs.Common.{◌≡◌, ◌<◌, ◌||◌, ℕ, Bool, true, false, not, List, [], ◌∷◌, map, Some}
use Rattle.std.proofs.Common.{refl, sym, ap, arith}
use Rattle.std.proofs.lemmas.Bool.{leb-true, le-leb}
use Rattle.std.proofs.lemmas.List.Elements.{All-cons, All-head, All-tail}
use Rattle.std.specs.BTreeMap.{insert_entry}
use Rattle.std.specs.Cmp.{nat_cmp_is, ranked}
use Rattle.std.specs.List.{All, filter, list_any, slice_get}
use Rattle.std.specs.Map.{keys_of}
use Rattle.std.specs.Ordering.{nat_cmp}
use Rattle.std.specs.declared.cmp.Ordering.{Ordering}
use Rattle.std.specs.declared.cmp.Ordering.TheVariants.{Less, Equal, Greater}
use Rattle.std.specs.Prelude.{nat_le}
use Rattle.tt_timers.specs.Pending.{Timer, least_in, put_timer}
use Rattle.tt_timers.specs.inside.Entries.{spot_cmp, timer_at}
use Rattle.tt_timers.specs.declared.spot.Spot.{Spot}
use Rattle.tt_timers.specs.declared.spot.Waiting.{Waiting}

-- ---- a timer more ----

not-le : (a b : ℕ) → b < a → nat_le a b ≡ false
not-le a b less = go (nat_le a b) refl
  where
    go : (at : Bool) → nat_le a b ≡ at → nat_le a b ≡ false
    go true e = absurd (omega (arith, leb-true a b e, less))
    go false e = e

-- an entry whose number is above all others is put where its timer is
pub put-is : (entries : List (Spot × Waiting)) (spot : Spot) (waiting : Waiting) → All (λ one. one.number < spot.number) (keys_of entries) →
    map timer_at (insert_entry spot_cmp entries spot waiting) ≡ put_timer (timer_at (spot, waiting)) (map timer_at entries)
put-is [] spot waiting above = refl
put-is (entry ∷ entries) spot waiting above =
    go (put-is entries spot waiting (All-tail (λ one. one.number < spot.number) entry.0 (keys_of entries) above)) (nat_cmp spot.moment entry.0.moment) refl
  where
    behind : nat_cmp spot.number entry.0.number ≡ Greater
    behind = sym (nat_cmp_is spot.number entry.0.number Greater (All-head (λ one. one.number < spot.number) entry.0 (keys_of entries) above))

    go : map timer_at (insert_entry spot_cmp entries spot waiting) ≡ put_timer (timer_at (spot, waiting)) (map timer_at entries) → (by : Ordering) →
        nat_cmp spot.moment entry.0.moment ≡ by →
        map timer_at (insert_entry spot_cmp (entry ∷ entries) spot waiting) ≡ put_timer (timer_at (spot, waiting)) (map timer_at (entry ∷ entries))
    go rest Less e = rw (e, not-le entry.0.moment spot.moment (ranked spot.moment entry.0.moment Less (sym e))) refl
    go rest Equal e =
        let same : spot.moment ≡ entry.0.moment = ranked spot.moment entry.0.moment Equal (sym e) in
        rw (e, behind, le-leb entry.0.moment spot.moment (omega (arith, same))) (ap (λ timers. timer_at entry ∷ timers) rest)
    go rest Greater e =
        let less : entry.0.moment < spot.moment = ranked spot.moment entry.0.moment Greater (sym e) in
        rw (e, le-leb entry.0.moment spot.moment (omega (arith, less))) (ap (λ timers. timer_at entry ∷ timers) rest)

-- ---- the timers of a sort ----

-- the entries without those of a sort
pub filter-is : (test : Timer → Bool) (entries : List (Spot × Waiting)) →
    map timer_at (filter (λ entry. not (test (timer_at entry))) entries) ≡ filter (λ timer. not (test timer)) (map timer_at entries)
filter-is test [] = refl
filter-is test (entry ∷ entries) = go (filter-is test entries) (test (timer_at entry)) refl
  where
    go : map timer_at (filter (λ entry. not (test (timer_at entry))) entries) ≡ filter (λ timer. not (test timer)) (map timer_at entries) →
        (passes : Bool) → test (timer_at entry) ≡ passes →
        map timer_at (filter (λ entry. not (test (timer_at entry))) (entry ∷ entries)) ≡ filter (λ timer. not (test timer)) (map timer_at (entry ∷ entries))
    go rest true e = rw e rest
    go rest false e = rw e (ap (λ timers. timer_at entry ∷ timers) rest)

pub any-is : (test : Timer → Bool) (entries : List (Spot × Waiting)) → list_any test (map timer_at entries) ≡ list_any (λ entry. test
    (timer_at entry)) entries
any-is test [] = refl
any-is test (entry ∷ entries) = ap (λ rest. test (timer_at entry) || rest) (any-is test entries)

-- the numbers of what a filter leaves
pub numbers-kept : (next : ℕ) (test : Spot × Waiting → Bool) (entries : List (Spot × Waiting)) → All (λ spot. spot.number < next) (keys_of entries) →
    All (λ spot. spot.number < next) (keys_of (filter test entries))
numbers-kept next test [] below = below
numbers-kept next test (entry ∷ entries) below =
    go (numbers-kept next test entries (All-tail (λ spot. spot.number < next) entry.0 (keys_of entries) below)) (test entry) refl
  where
    go : All (λ spot. spot.number < next) (keys_of (filter test entries)) → (passes : Bool) → test entry ≡ passes → All (λ spot. spot.number < next)
        (keys_of (filter test (entry ∷ entries)))
    go rest true e =
        rw e (All-cons (λ spot. spot.number < next) entry.0 (keys_of (filter test entries))
        (All-head (λ spot. spot.number < next) entry.0 (keys_of entries) below) rest)
    go rest false e = rw e rest

-- ---- the first entry ----

pub least-is : (entries : List (Spot × Waiting)) (entry : Spot × Waiting) → slice_get entries 0 ≡ Some entry → least_in
    (map timer_at entries) ≡ Some entry.0.moment
least-is [] entry e = absurd (cc e)
least-is (first ∷ entries) entry e = let same : first ≡ entry = cc e in ap (λ one. Some one.0.moment) same
