-- Lists read by `slice_get` and `get_elem?`, after an edit.
use Rattle.std.proofs.Common.{◌≡◌, ◌≢◌, ◌⊎◌, ℕ, zero, suc, ◌+◌, ◌-◌, ◌<◌, List, [], ◌∷◌, ◌++◌, length, replicate, set}
use Rattle.std.proofs.Common.{take, drop, sym, refl, ap, ◌∙◌, inl, inr, ⊎_elim, arith, Some, slice_get}
use Rattle.std.specs.List.{enumerate_from}
use mathlib.Core.Option.{some, some-injective, some-ne-none}
use lib.ListN.{get_elem?}

pub none_get : {A : Type 0} (k : ℕ) (a : A) → slice_get [] k ≡ Some a → ⊥
none_get k a e = cc

module _ {A : Type 0} where
  pub set_there : (l : List A) (i : ℕ) (a b : A) → get_elem? l i ≡ some a → get_elem? (set l i b) i ≡ some b
  set_there [] i a b e = absurd (some-ne-none a (sym e))
  set_there (x ∷ xs) zero a b e = refl
  set_there (x ∷ xs) (suc i) a b e = set_there xs i a b e

  -- the last element, at its place, or one before it
  pub at_end : (l : List A) (a b : A) (j : ℕ) → get_elem? (l ++ a ∷ []) j ≡ some b → (get_elem? l j ≡ some b) ⊎ ((j ≡ length l) × (a ≡ b))
  at_end [] a b zero e = inr (refl, some-injective a b e)
  at_end [] a b (suc j) e = absurd (some-ne-none b (sym e))
  at_end (x ∷ xs) a b zero e = inl e
  at_end (x ∷ xs) a b (suc j) e = ⊎_elim inl (λ t. inr (ap suc t.0, t.1)) (at_end xs a b j e)

  pub get_set_same : (l : List A) (i : ℕ) (a b : A) → slice_get l i ≡ Some a → slice_get (set l i b) i ≡ Some b
  get_set_same [] i a b e = absurd (none_get i a e)
  get_set_same (x ∷ xs) zero a b e = refl
  get_set_same (x ∷ xs) (suc i) a b e = get_set_same xs i a b e

  pub get_set_other : (l : List A) (i j : ℕ) (b : A) → j ≢ i → slice_get (set l i b) j ≡ slice_get l j
  get_set_other [] i j b n = refl
  get_set_other (x ∷ xs) zero zero b n = absurd (n refl)
  get_set_other (x ∷ xs) zero (suc j) b n = refl
  get_set_other (x ∷ xs) (suc i) zero b n = refl
  get_set_other (x ∷ xs) (suc i) (suc j) b n = get_set_other xs i j b (λ e. n (ap suc e))

  pub get_drop : (l : List A) (k : ℕ) → slice_get (drop 1 l) k ≡ slice_get l (suc k)
  get_drop [] k = refl
  get_drop (x ∷ xs) k = refl

  pub get_take : (l : List A) (k : ℕ) (a : A) → slice_get (take 1 l) k ≡ Some a → (k ≡ 0) × (slice_get l 0 ≡ Some a)
  get_take [] k a e = absurd (none_get k a e)
  get_take (x ∷ xs) zero a e = (refl, e)
  get_take (x ∷ xs) (suc k) a e = absurd (none_get k a e)

  pub take_first : (l : List A) (a : A) → slice_get l 0 ≡ Some a → slice_get (take 1 l) 0 ≡ Some a
  take_first [] a e = e
  take_first (x ∷ xs) a e = e

  pub get_one : (k : ℕ) (a b : A) → slice_get (a ∷ []) k ≡ Some b → (k ≡ 0) × (b ≡ a)
  get_one zero a b e = (refl, cc)
  get_one (suc k) a b e = absurd (none_get k b e)

  -- the one element of a list, taken from its end
  pub last_one : (l : List A) (a b : A) → l ++ b ∷ [] ≡ a ∷ [] → b ≡ a
  last_one [] a b e = cc
  last_one (x ∷ []) a b e = absurd (cc)
  last_one (x ∷ y ∷ ys) a b e = absurd (cc)

  pub get_append : (l m : List A) (k : ℕ) (a : A) → slice_get (l ++ m) k ≡ Some a →
      (slice_get l k ≡ Some a) ⊎ ((j : ℕ) × (k ≡ length l + j) × (slice_get m j ≡ Some a))
  get_append [] m k a e = inr (k, omega arith, e)
  get_append (x ∷ xs) m zero a e = inl e
  get_append (x ∷ xs) m (suc k) a e = ⊎_elim inl (λ t. inr (t.0, omega (arith, t.1), t.2)) (get_append xs m k a e)

  pub get_front : (l m : List A) (k : ℕ) (a : A) → slice_get l k ≡ Some a → slice_get (l ++ m) k ≡ Some a
  get_front [] m k a e = absurd (none_get k a e)
  get_front (x ∷ xs) m zero a e = e
  get_front (x ∷ xs) m (suc k) a e = get_front xs m k a e

  pub get_behind : (l m : List A) (j : ℕ) → slice_get (l ++ m) (length l + j) ≡ slice_get m j
  get_behind [] m j = let same : 0 + j ≡ j = omega arith in ap (slice_get m) same
  get_behind (x ∷ xs) m j = let next : length (x ∷ xs) + j ≡ suc (length xs + j) = omega arith in ap (slice_get (x ∷ (xs ++ m))) next ∙ get_behind xs m j

  pub get_end : (l : List A) (a b : A) (j : ℕ) → slice_get (l ++ a ∷ []) j ≡ Some b → (slice_get l j ≡ Some b) ⊎ ((j ≡ length l) × (b ≡ a))
  get_end l a b j e = ⊎_elim inl (λ t. let last = get_one t.0 a b t.2 in inr (t.1 ∙ omega (arith, last.0), last.1)) (get_append l (a ∷ []) j b e)

  pub numbered_at : (n i k : ℕ) (a : A) → k < n → slice_get (enumerate_from i (replicate n a)) k ≡ Some (i + k, a)
  numbered_at zero i k a h = absurd (omega arith)
  numbered_at (suc n) i zero a h = let here : i ≡ i + 0 = omega arith in ap (λ (j : ℕ). Some (j, a)) here
  numbered_at (suc n) i (suc k) a h = let next : (i + 1) + k ≡ i + suc k = omega arith in numbered_at n (i + 1) k a (omega arith) ∙ ap (λ (j : ℕ). Some (j, a)) next

  -- the first of the elements from place k on
  pub numbered_next : (n k : ℕ) (a : A) → k < n → enumerate_from k (replicate (n - k) a) ≡ (k, a) ∷ enumerate_from (k + 1) (replicate (n - (k + 1)) a)
  numbered_next n k a h = let next : n - k ≡ suc (n - (k + 1)) = omega arith in ap (λ (m : ℕ). enumerate_from k (replicate m a)) next

  -- the elements of a list of one element, each with its place
  pub get_numbered : (n i k : ℕ) (a : A) (c : ℕ × A) → slice_get (enumerate_from i (replicate n a)) k ≡ Some c → (c ≡ (i + k, a))
      × (slice_get (replicate n a) k ≡ Some a)
  get_numbered zero i k a c e = absurd (none_get k c e)
  get_numbered (suc n) i zero a c e = let h : c ≡ (i, a) = cc in let here : i ≡ i + 0 = omega arith in (h ∙ (λ j. (here j, a)), refl)
  get_numbered (suc n) i (suc k) a c e = let t = get_numbered n (i + 1) k a c e in let next : (i + 1) + k ≡ i + suc k = omega arith in (t.0 ∙ (λ j. (next j, a)), t.1)

-- what a list of one slot has, read in two ways
pub same_held : {K : Type 0} (l rest : List (ℕ × K)) (a b : K) → l ≡ (0, a) ∷ [] → l ≡ (0, b) ∷ rest → a ≡ b
same_held {K} l rest a b one first = let x : ℕ × K = (0, a) in let y : ℕ × K = (0, b) in let head : x ∷ [] ≡ y ∷ rest = sym one ∙ first in let pair : x ≡ y = cc in ap (λ (p : ℕ × K). p.1) pair
