-- Items of lists.
use Rattle.std.proofs.Common.{◌≡◌, ◌≢◌, ◌+◌, ◌-◌, ◌<◌, ◌≤◌, ◌∙◌, ◌⊎◌, ℕ, zero, suc, List, [], ◌∷◌, ◌++◌, length, Some, None}
use Rattle.std.proofs.Common.{ap, inl, inr, arith, refl, slice_get, slice_set}
use Rattle.tt_calls.specs.Numbers.{at_number}
use Rattle.tt_core.proofs.PlaceLemmas.{not-zero, sub-one}

pub same-or-not : (j i : ℕ) → (j ≡ i) ⊎ (j ≢ i)
same-or-not zero zero = inl refl
same-or-not zero (suc i) = inr (λ is. omega (arith, is))
same-or-not (suc j) zero = inr (λ is. omega (arith, is))
same-or-not (suc j) (suc i) = by-case (same-or-not j i)
  where
    by-case : (j ≡ i) ⊎ (j ≢ i) → (suc j ≡ suc i) ⊎ (suc j ≢ suc i)
    by-case (inl is) = inl (ap suc is)
    by-case (inr not) = inr (λ is. not (omega (arith, is)))

module _ {X : Type 0} where
  pub get-set-other : (xs : List X) (i j : ℕ) (x : X) → j ≢ i → slice_get (slice_set xs i x) j ≡ slice_get xs j
  get-set-other [] i j x other = refl
  get-set-other (first ∷ xs) zero zero x other = absurd (other refl)
  get-set-other (first ∷ xs) zero (suc j) x other = refl
  get-set-other (first ∷ xs) (suc i) zero x other = refl
  get-set-other (first ∷ xs) (suc i) (suc j) x other = get-set-other xs i j x (λ is. other (ap suc is))

  pub get-set-same : (xs : List X) (i : ℕ) (x y : X) → slice_get xs i ≡ Some y → slice_get (slice_set xs i x) i ≡ Some x
  get-set-same [] i x y there = absurd (cc there)
  get-set-same (first ∷ xs) zero x y there = refl
  get-set-same (first ∷ xs) (suc i) x y there = get-set-same xs i x y there

  pub set-set : (xs : List X) (i : ℕ) (x y : X) → slice_set (slice_set xs i x) i y ≡ slice_set xs i y
  set-set [] i x y = refl
  set-set (first ∷ xs) zero x y = refl
  set-set (first ∷ xs) (suc i) x y = ap (λ (list : List X). first ∷ list) (set-set xs i x y)

  pub set-get : (xs : List X) (i : ℕ) (x : X) → slice_get xs i ≡ Some x → slice_set xs i x ≡ xs
  set-get [] i x there = absurd (cc there)
  set-get (first ∷ xs) zero x there = let same : first ≡ x = cc there in ap (λ (one : X). one ∷ xs) (sym-of same)
    where
      sym-of : first ≡ x → x ≡ first
      sym-of is = cc is
  set-get (first ∷ xs) (suc i) x there = ap (λ (list : List X). first ∷ list) (set-get xs i x there)

  pub get-append : (xs more : List X) (i : ℕ) (x : X) → slice_get xs i ≡ Some x → slice_get (xs ++ more) i ≡ Some x
  get-append [] more i x there = absurd (cc there)
  get-append (first ∷ xs) more zero x there = there
  get-append (first ∷ xs) more (suc i) x there = get-append xs more i x there

  -- the item of a number from 1
  pub place-before : (xs : List X) (number : ℕ) → 1 ≤ number → at_number xs number ≡ slice_get xs (number - 1)
  place-before xs zero above = absurd (omega (arith, above))
  place-before xs (suc k) above = rw (not-zero k) refl

  pub from-one : (xs : List X) (number : ℕ) (x : X) → at_number xs number ≡ Some x → 1 ≤ number
  from-one xs zero x there = absurd (cc there)
  from-one xs (suc k) x there = omega arith

pub one-and-less : (number : ℕ) → 1 ≤ number → 1 + (number - 1) ≡ number
one-and-less number above = omega (arith, above)

pub less-and-one : (number : ℕ) → 1 ≤ number → (number - 1) + 1 ≡ number
less-and-one number above = omega (arith, above)

module _ {X : Type 0} where
  pub got-set : (xs : List X) (i : ℕ) (x y : X) → slice_get (slice_set xs i x) i ≡ Some y → y ≡ x
  got-set [] i x y there = absurd (cc there)
  got-set (first ∷ xs) zero x y there = cc there
  got-set (first ∷ xs) (suc i) x y there = got-set xs i x y there

  past-get : (xs : List X) (k : ℕ) → length xs ≤ k → slice_get xs k ≡ None
  past-get [] k le = refl
  past-get (x ∷ xs) zero le = absurd (omega (arith, le))
  past-get (x ∷ xs) (suc k) le = past-get xs k (omega (arith, le))

  -- there is none past the last
  pub beyond : (xs : List X) (number : ℕ) → length xs < number → at_number xs number ≡ None
  beyond xs zero above = refl
  beyond xs (suc k) above = place-before xs (suc k) (omega arith) ∙ (ap (slice_get xs) (sub-one k) ∙ past-get xs k (omega (arith, above)))

  pub not-empty : (xs : List X) (x : X) → xs ++ x ∷ [] ≡ [] → ⊥
  not-empty [] x is = cc
  not-empty (first ∷ xs) x is = cc
