-- A list with one more at its end: what stands where.
use Rattle.std.proofs.Common.{◌≡◌, ℕ, zero, suc, ◌<◌, ◌⊎◌, List, [], ◌∷◌, ◌++◌, Some, length, slice_get, refl, ap, inl, inr, arith}
use Rattle.std.proofs.lemmas.Option.{none-some}

pub some_same : {X : Type 0} {x y : X} → Some x ≡ Some y → x ≡ y
some_same is = cc is

module _ {X : Type 0} where
  -- what stood there still does
  pub at_old : (xs : List X) (y : X) (i : ℕ) (x : X) → slice_get xs i ≡ Some x → slice_get (xs ++ y ∷ []) i ≡ Some x
  at_old [] y i x there = absurd (none-some x there)
  at_old (z ∷ xs) y zero x there = there
  at_old (z ∷ xs) y (suc i) x there = at_old xs y i x there

  -- the last
  pub at_end : (xs : List X) (y : X) → slice_get (xs ++ y ∷ []) (length xs) ≡ Some y
  at_end [] y = refl
  at_end (z ∷ xs) y = at_end xs y

  -- what stands there stood there, or is the last
  pub at_cases : (xs : List X) (y : X) (i : ℕ) (x : X) → slice_get (xs ++ y ∷ []) i ≡ Some x → (slice_get xs i ≡ Some x) ⊎ ((i ≡ length xs) × (y ≡ x))
  at_cases [] y zero x there = inr (refl, some_same there)
  at_cases [] y (suc i) x there = absurd (none-some x there)
  at_cases (z ∷ xs) y zero x there = inl there
  at_cases (z ∷ xs) y (suc i) x there = longer (at_cases xs y i x there)
    where
      longer : (slice_get xs i ≡ Some x) ⊎ ((i ≡ length xs) × (y ≡ x)) → (slice_get xs i ≡ Some x) ⊎ ((suc i ≡ suc (length xs)) × (y ≡ x))
      longer (inl before) = inl before
      longer (inr last) = inr (ap suc last.0, last.1)

  pub at_less : (xs : List X) (y : X) (i : ℕ) (x : X) → i < length xs → slice_get (xs ++ y ∷ []) i ≡ Some x → slice_get xs i ≡ Some x
  at_less xs y i x within there = by (at_cases xs y i x there)
    where
      by : (slice_get xs i ≡ Some x) ⊎ ((i ≡ length xs) × (y ≡ x)) → slice_get xs i ≡ Some x
      by (inl before) = before
      by (inr last) = absurd (omega (arith, within, last.0))
