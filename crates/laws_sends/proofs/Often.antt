-- How often scripts begin, end and are answered.
use Rattle.std.proofs.Common.{◌≡◌, ◌≢◌, ◌+◌, ◌≤◌, ◌==◌, ℕ, Bool, true, false, cond, List, [], ◌∷◌, count_by, ap, refl, sym, arith}
use Rattle.laws_sends.proofs.Order.{posted_least}
use Rattle.laws_sends.proofs.Totals.{total, total-count, total-le}
use Rattle.laws_sends.proofs.Views.{answered, begun, begun_by, ended, one_if, one_of, posted, posted_to}
use Rattle.laws_shared.proofs.Deciding.{apart, differs, itself}
use Rattle.laws_sends.specs.Sends.{begins, ends, is_answer}
use Rattle.laws_shared.specs.Happenings.{Happening, Posted, Began, Finished, Died, Got, Set, GetsHold, Frees, Owner}

begins_weigh : (n : ℕ) (one : Happening) → cond (begins n one) 1 0 ≡ begun n one
begins_weigh n (Posted m from to recipient head) = refl
begins_weigh n (Began m t) = refl
begins_weigh n (Finished m outcome) = refl
begins_weigh n (Died m) = refl
begins_weigh n (Got m t told) = refl
begins_weigh n (Set m t value) = refl
begins_weigh n (GetsHold lock t) = refl
begins_weigh n (Frees lock t) = refl
begins_weigh n (Owner channel owner) = refl

ends_weigh : (n : ℕ) (one : Happening) → cond (ends n one) 1 0 ≡ ended n one
ends_weigh n (Posted m from to recipient head) = refl
ends_weigh n (Began m t) = refl
ends_weigh n (Finished m outcome) = refl
ends_weigh n (Died m) = refl
ends_weigh n (Got m t told) = refl
ends_weigh n (Set m t value) = refl
ends_weigh n (GetsHold lock t) = refl
ends_weigh n (Frees lock t) = refl
ends_weigh n (Owner channel owner) = refl

answers_weigh : (n : ℕ) (one : Happening) → cond (is_answer n one) 1 0 ≡ answered n one
answers_weigh n (Posted m from to recipient head) = refl
answers_weigh n (Began m t) = refl
answers_weigh n (Finished m outcome) = refl
answers_weigh n (Died m) = refl
answers_weigh n (Got m t told) = refl
answers_weigh n (Set m t value) = refl
answers_weigh n (GetsHold lock t) = refl
answers_weigh n (Frees lock t) = refl
answers_weigh n (Owner channel owner) = refl

-- what begins at one thread alone
begun_at : (n t : ℕ) (hs : List Happening) → ((u : ℕ) → u ≢ t → total (begun_by n u) hs ≡ 0) → total (begun n) hs ≤ total (begun_by n t) hs
begun_at n t [] none = omega arith
begun_at n t (one ∷ hs) none = go one (λ u other. none u other) (begun_at n t hs (λ u other. omega (arith, none u other)))
  where
    go : (what : Happening) → ((u : ℕ) → u ≢ t → begun_by n u what + total (begun_by n u) hs ≡ 0)
        → total (begun n) hs ≤ total (begun_by n t) hs → begun n what + total (begun n) hs ≤ begun_by n t what + total (begun_by n t) hs
    go (Posted m from to recipient head) nobody later = omega (arith, later)
    go (Finished m outcome) nobody later = omega (arith, later)
    go (Died m) nobody later = omega (arith, later)
    go (Got m u told) nobody later = omega (arith, later)
    go (Set m u value) nobody later = omega (arith, later)
    go (GetsHold lock u) nobody later = omega (arith, later)
    go (Frees lock u) nobody later = omega (arith, later)
    go (Owner channel owner) nobody later = omega (arith, later)
    go (Began m u) nobody later = at (u == t) refl
      where
        at : (b : Bool) → (u == t) ≡ b → one_if (m == n) + total (begun n) hs ≤ one_of (u == t) (m == n) + total (begun_by n t) hs
        at true is = omega (arith, later, ap (λ b. one_of b (m == n)) is)
        at false is = omega (arith, later, nobody u (differs u t is), ap (λ b. one_of b (m == n)) (itself u))

both_none : (a b : Bool) → b ≡ false → one_of a b ≡ 0
both_none true b is = ap one_if is
both_none false b is = refl

-- the one thread that it was posted to
target : (n : ℕ) (hs : List Happening) → total (posted n) hs ≤ 1 → (t : ℕ) × ((u : ℕ) → u ≢ t → total (posted_to n u) hs ≡ 0)
target n [] once = (0, λ u other. refl)
target n (one ∷ hs) once = go one once (target n hs)
  where
    least : (u : ℕ) → total (posted_to n u) hs ≤ total (posted n) hs
    least u = total-le (posted_to n u) (posted n) (posted_least n u) hs

    go : (what : Happening) → posted n what + total (posted n) hs ≤ 1
        → (total (posted n) hs ≤ 1 → (t : ℕ) × ((u : ℕ) → u ≢ t → total (posted_to n u) hs ≡ 0))
        → (t : ℕ) × ((u : ℕ) → u ≢ t → posted_to n u what + total (posted_to n u) hs ≡ 0)
    go (Posted m from to recipient head) most later = at (m == n) refl
      where
        at : (b : Bool) → (m == n) ≡ b → (t : ℕ) × ((u : ℕ) → u ≢ t → one_of (to == u) (m == n) + total (posted_to n u) hs ≡ 0)
        at true is = (
          to,
          λ u other.
              omega (arith, most, ap one_if is, least u, ap (λ b. one_of b (m == n)) (apart to u (λ alike. other (sym alike)))),
        )
        at false is =
            let found = later (omega (arith, most)) in
            (found.0, λ u other. omega (arith, found.1 u other, both_none (to == u) (m == n) is))
    go (Began m v) most later = let found = later (omega (arith, most)) in (found.0, λ u other. omega (arith, found.1 u other))
    go (Finished m outcome) most later = let found = later (omega (arith, most)) in (found.0, λ u other. omega (arith, found.1 u other))
    go (Died m) most later = let found = later (omega (arith, most)) in (found.0, λ u other. omega (arith, found.1 u other))
    go (Got m v told) most later = let found = later (omega (arith, most)) in (found.0, λ u other. omega (arith, found.1 u other))
    go (Set m v value) most later = let found = later (omega (arith, most)) in (found.0, λ u other. omega (arith, found.1 u other))
    go (GetsHold lock v) most later = let found = later (omega (arith, most)) in (found.0, λ u other. omega (arith, found.1 u other))
    go (Frees lock v) most later = let found = later (omega (arith, most)) in (found.0, λ u other. omega (arith, found.1 u other))
    go (Owner channel owner) most later = let found = later (omega (arith, most)) in (found.0, λ u other. omega (arith, found.1 u other))

pub begins_at_most : (n : ℕ) (hs : List Happening) → ((t : ℕ) → total (begun_by n t) hs ≤ total (posted_to n t) hs) → total (posted n) hs ≤ 1
    → total (begun n) hs ≤ 1
begins_at_most n hs least once =
    let found = target n hs once in
    let at = begun_at n found.0 hs (λ u other. omega (arith, least u, found.1 u other)) in
    let to = total-le (posted_to n found.0) (posted n) (posted_least n found.0) hs in
    omega (arith, at, least found.0, to, once)

-- ---- as they are counted ----

pub begins_total : (n : ℕ) (hs : List Happening) → count_by (begins n) hs ≡ total (begun n) hs
begins_total n hs = total-count (begins n) (begun n) (begins_weigh n) hs

pub ends_total : (n : ℕ) (hs : List Happening) → count_by (ends n) hs ≡ total (ended n) hs
ends_total n hs = total-count (ends n) (ended n) (ends_weigh n) hs

pub answers_total : (n : ℕ) (hs : List Happening) → count_by (is_answer n) hs ≡ total (answered n) hs
answers_total n hs = total-count (is_answer n) (answered n) (answers_weigh n) hs
