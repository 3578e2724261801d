-- What the weights of happenings come to.
use Rattle.std.proofs.Common.{◌≡◌, ◌≢◌, ◌∙◌, ◌+◌, ◌<◌, ◌≤◌, ◌==◌, ℕ, zero, suc, Bool, true, false, List, [], ◌∷◌, Contains}
use Rattle.std.proofs.Common.{flat_map, ap, refl, sym, subst, arith}
use Rattle.std.proofs.lemmas.List.Elements.{Contains-append_right}
use Rattle.laws_sends.proofs.Cuts.{Every}
use Rattle.laws_sends.proofs.Totals.{total, total-append}
use Rattle.laws_sends.proofs.Views.{OfOthers, begun_by, one_if, one_of, posted_to}
use Rattle.laws_sends.specs.Sends.{IsPosted}
use Rattle.laws_shared.proofs.Deciding.{apart, itself, same}
use Rattle.laws_shared.specs.Happenings.{Happening, Posted, Began, Finished, Died, Got, Set, GetsHold, Frees, Owner}

-- ---- tests of numbers ----

pub one_same : (a b : ℕ) → a ≡ b → one_if (a == b) ≡ 1
one_same a b is = ap one_if (ap (λ c. a == c) (sym is) ∙ itself a)

pub one_other : (a b : ℕ) → a ≢ b → one_if (a == b) ≡ 0
one_other a b other = ap one_if (apart a b other)

pub one_most : (b : Bool) → one_if b ≤ 1
one_most true = omega arith
one_most false = omega arith

pub both_most : (a b : Bool) → one_of a b ≤ one_if b
both_most true b = omega arith
both_most false b = omega arith

-- ---- elements ----

pub first_of : {X : Type 0} (x : X) (xs : List X) → Contains (x ∷ xs) x
first_of x xs = (0, omega arith, refl)

pub later_of : {X : Type 0} (y : X) (xs : List X) (x : X) → Contains xs x → Contains (y ∷ xs) x
later_of y xs x is = Contains-append_right (y ∷ []) xs x is

-- ---- a weight that is there ----

module _ {X : Type 0} (w : X → ℕ) (P : List X → Type 0) (here : (x : X) (xs : List X) → 0 < w x → P (x ∷ xs))
    (later : (x : X) (xs : List X) → P xs → P (x ∷ xs)) where
  pub found : (xs : List X) → 0 < total w xs → P xs
  found [] some = let no : ⊥ = omega (arith, some) in absurd no
  found (x ∷ xs) some = go (w x) refl (found xs)
    where
      go : (n : ℕ) → w x ≡ n → (0 < total w xs → P xs) → P (x ∷ xs)
      go zero none on = later x xs (on (omega (arith, some, none)))
      go (suc n) is on = here x xs (omega (arith, is))

pub is_posted : (n t : ℕ) (hs : List Happening) → 0 < total (posted_to n t) hs → IsPosted hs n t
is_posted n t hs some = found (posted_to n t) (λ xs. IsPosted xs n t) here later hs some
  where
    here : (one : Happening) (xs : List Happening) → 0 < posted_to n t one → IsPosted (one ∷ xs) n t
    here (Posted m from to recipient head) xs is = go (to == t) (m == n) refl refl is
      where
        go : (a b : Bool) → (to == t) ≡ a → (m == n) ≡ b → 0 < one_of a b → IsPosted (Posted m from to recipient head ∷ xs) n t
        go true true to_is m_is is =
            let first = first_of (Posted m from to recipient head) xs in
            let number = subst (λ k. Contains (Posted m from to recipient head ∷ xs) (Posted k from to recipient head)) (same m n m_is) first in
            record {
              from = from;
              recipient = recipient;
              head = head;
              posted = subst (λ k. Contains (Posted m from to recipient head ∷ xs) (Posted n from k recipient head)) (same to t to_is) number;
            }
        go true false to_is m_is is = let no : ⊥ = omega (arith, is) in absurd no
        go false b to_is m_is is = let no : ⊥ = omega (arith, is) in absurd no
    here (Began m u) xs is = let no : ⊥ = omega (arith, is) in absurd no
    here (Finished m outcome) xs is = let no : ⊥ = omega (arith, is) in absurd no
    here (Died m) xs is = let no : ⊥ = omega (arith, is) in absurd no
    here (Got m u told) xs is = let no : ⊥ = omega (arith, is) in absurd no
    here (Set m u value) xs is = let no : ⊥ = omega (arith, is) in absurd no
    here (GetsHold lock u) xs is = let no : ⊥ = omega (arith, is) in absurd no
    here (Frees lock u) xs is = let no : ⊥ = omega (arith, is) in absurd no
    here (Owner channel owner) xs is = let no : ⊥ = omega (arith, is) in absurd no

    later : (one : Happening) (xs : List Happening) → IsPosted xs n t → IsPosted (one ∷ xs) n t
    later one xs is = record { from = is.from; recipient = is.recipient; head = is.head; posted = later_of one xs _ is.posted }

pub has_begun : (n t : ℕ) (hs : List Happening) → 0 < total (begun_by n t) hs → Contains hs (Began n t)
has_begun n t hs some = found (begun_by n t) (λ xs. Contains xs (Began n t)) here (λ one xs is. later_of one xs _ is) hs some
  where
    here : (one : Happening) (xs : List Happening) → 0 < begun_by n t one → Contains (one ∷ xs) (Began n t)
    here (Began m u) xs is = go (u == t) (m == n) refl refl is
      where
        go : (a b : Bool) → (u == t) ≡ a → (m == n) ≡ b → 0 < one_of a b → Contains (Began m u ∷ xs) (Began n t)
        go true true u_is m_is is =
            let first = first_of (Began m u) xs in
            let number = subst (λ k. Contains (Began m u ∷ xs) (Began k u)) (same m n m_is) first in
            subst (λ k. Contains (Began m u ∷ xs) (Began n k)) (same u t u_is) number
        go true false u_is m_is is = let no : ⊥ = omega (arith, is) in absurd no
        go false b u_is m_is is = let no : ⊥ = omega (arith, is) in absurd no
    here (Posted m from to recipient head) xs is = let no : ⊥ = omega (arith, is) in absurd no
    here (Finished m outcome) xs is = let no : ⊥ = omega (arith, is) in absurd no
    here (Died m) xs is = let no : ⊥ = omega (arith, is) in absurd no
    here (Got m u told) xs is = let no : ⊥ = omega (arith, is) in absurd no
    here (Set m u value) xs is = let no : ⊥ = omega (arith, is) in absurd no
    here (GetsHold lock u) xs is = let no : ⊥ = omega (arith, is) in absurd no
    here (Frees lock u) xs is = let no : ⊥ = omega (arith, is) in absurd no
    here (Owner channel owner) xs is = let no : ⊥ = omega (arith, is) in absurd no

-- what is there counts
pub counts : {X : Type 0} (w : X → ℕ) (xs : List X) (x : X) → Contains xs x → w x ≤ total w xs
counts w [] x is = absurd (let no : ⊥ = omega (arith, is.1) in no)
counts w (y ∷ ys) x (zero, within, is) = omega (arith, ap w is)
counts w (y ∷ ys) x (suc k, within, is) = omega (arith, counts w ys x (k, omega (arith, within), is))

-- ---- several ----

pub total-flat : {X Y : Type 0} (w : Y → ℕ) (f : X → List Y) (v : X → ℕ) → ((x : X) → total w (f x) ≡ v x) → (xs : List X)
    → total w (flat_map f xs) ≡ total v xs
total-flat w f v each [] = refl
total-flat w f v each (x ∷ xs) = omega (arith, total-append w (f x) (flat_map f xs), each x, total-flat w f v each xs)

-- what has nothing to do with sends weighs nothing
pub others_none : (w : Happening → ℕ) → ((lock : List ℕ) (t : ℕ) → w (GetsHold lock t) ≡ 0) → ((lock : List ℕ) (t : ℕ) → w (Frees lock t) ≡ 0)
    → ((channel : List ℕ) (owner : _) → w (Owner channel owner) ≡ 0) → (hs : List Happening) → Every OfOthers hs → total w hs ≡ 0
others_none w gets frees owned [] every = refl
others_none w gets frees owned (one ∷ hs) every = go one every.0 (others_none w gets frees owned hs every.1)
  where
    go : (what : Happening) → OfOthers what → total w hs ≡ 0 → w what + total w hs ≡ 0
    go (GetsHold lock t) is later = omega (arith, gets lock t, later)
    go (Frees lock t) is later = omega (arith, frees lock t, later)
    go (Owner channel owner) is later = omega (arith, owned channel owner, later)
    go (Posted n from to recipient head) is later = absurd is
    go (Began n t) is later = absurd is
    go (Finished n outcome) is later = absurd is
    go (Died n) is later = absurd is
    go (Got n t told) is later = absurd is
    go (Set n t value) is later = absurd is
