-- The keys of the two maps: keys that compare alike are one.
use Rattle.std.proofs.Common.{◌≡◌, ℕ, true, refl, sym, ap}
use Rattle.std.proofs.lemmas.Map.Lookups.{exact_pairs, exact_unsigned}
use Rattle.std.specs.BTreeMap.{is_at}
use Rattle.std.specs.Cmp.{nat_cmp_is}
use Rattle.std.specs.Ordering.{is_eq, nat_cmp, ordering_then}
use Rattle.std.specs.declared.cmp.Ordering.{Ordering}
use Rattle.std.specs.declared.cmp.Ordering.TheVariants.{Less, Equal, Greater}
use Rattle.tt_timers.specs.inside.Entries.{owner_cmp, spot_cmp}
use Rattle.tt_timers.specs.declared.spot.Owner.{Owner}
use Rattle.tt_timers.specs.declared.spot.Spot.{Spot}

equal-of : (by : Ordering) → is_eq by ≡ true → by ≡ Equal
equal-of Less is = absurd (cc is)
equal-of Equal is = refl
equal-of Greater is = absurd (cc is)

self : (n : ℕ) → nat_cmp n n ≡ Equal
self n = sym (nat_cmp_is n n Equal refl)

pub exact-spots : (a b : Spot) → spot_cmp a b ≡ Equal → a ≡ b
exact-spots a b is =
    ap (λ (p : ℕ × ℕ). record { moment = p.0; number = p.1 })
    (exact_pairs nat_cmp nat_cmp exact_unsigned exact_unsigned (a.moment, a.number) (b.moment, b.number) is)

pub same-spot : (a b : Spot) → is_at (spot_cmp a) b ≡ true → a ≡ b
same-spot a b is = exact-spots a b (equal-of (spot_cmp a b) is)

pub spot-self : (a : Spot) → spot_cmp a a ≡ Equal
spot-self a = rw (self a.moment, self a.number) refl

pub same-owner : (a b : Owner) → is_at (owner_cmp a) b ≡ true → a ≡ b
same-owner a b is =
    ap (λ (p : ℕ × (ℕ × ℕ)). record { thread = p.0; rank = p.1.0; number = p.1.1 })
    (exact_pairs nat_cmp (λ x y. ordering_then (nat_cmp x.0 y.0) (nat_cmp x.1 y.1)) exact_unsigned
    (exact_pairs nat_cmp nat_cmp exact_unsigned exact_unsigned) (a.thread, (a.rank, a.number)) (b.thread, (b.rank, b.number))
    (equal-of (owner_cmp a b) is))

pub owner-self : (a : Owner) → owner_cmp a a ≡ Equal
owner-self a = rw (self a.thread, self a.rank, self a.number) refl
