-- What stands under a number, from 1, in a list after it was changed.
use Rattle.std.proofs.Common.{◌≡◌, ◌∙◌, ◌-◌, ◌==◌, ℕ, zero, suc, Bool, true, false, List, [], ◌∷◌, ◌++◌, length}
use Rattle.std.proofs.Common.{slice_get, slice_set, Option, Some, None, if◌then◌else◌, ap, refl, arith}
use Rattle.std.proofs.lemmas.Bool.Decides.{nat_tests}
use Rattle.tt_calls.specs.Numbers.{at_number}

-- numbers are from 1
not_zero : (i : ℕ) → (suc i == 0) ≡ false
not_zero i = grind (arith, nat_tests)

less_one : (i : ℕ) → suc i - 1 ≡ i
less_one i = omega arith

module _ {X : Type 0} where
  by_place : (P : Option X → Type 0) (xs : List X) (i j : ℕ) (x old : X) → slice_get xs i ≡ Some old → (j ≡ i → P (Some x)) → P (slice_get xs j) →
      P (slice_get (slice_set xs i x) j)
  by_place P [] i j x old there here is = is
  by_place P (y ∷ ys) zero zero x old there here is = here refl
  by_place P (y ∷ ys) zero (suc j) x old there here is = is
  by_place P (y ∷ ys) (suc i) zero x old there here is = is
  by_place P (y ∷ ys) (suc i) (suc j) x old there here is = by_place P ys i j x old there (λ same. here (ap suc same)) is

  past_place : (P : Option X → Type 0) (xs : List X) (j : ℕ) (x : X) → (P None → j ≡ length xs → P (Some x)) → P (slice_get xs j) →
      P (slice_get (xs ++ x ∷ []) j)
  past_place P [] zero x new is = new is refl
  past_place P [] (suc j) x new is = is
  past_place P (y ∷ ys) zero x new is = is
  past_place P (y ∷ ys) (suc j) x new is = past_place P ys j x (λ none same. new none (ap suc same)) is

  -- an element that is there is put in place of another
  pub by_number : (P : Option X → Type 0) (xs : List X) (n m : ℕ) (x old : X) → at_number xs n ≡ Some old → (m ≡ n → P (Some x)) → P (at_number xs m) →
      P (at_number (slice_set xs (n - 1) x) m)
  by_number P xs n m x old there here is = go (n == 0) (m == 0) refl refl there is
    where
      go : (first second : Bool) → (n == 0) ≡ first → (m == 0) ≡ second
          → (if first then None else slice_get xs (n - 1)) ≡ Some old → P (if second then None else slice_get xs (m - 1))
          → P (if second then None else slice_get (slice_set xs (n - 1) x) (m - 1))
      go true second is_zero other there is = absurd (cc there)
      go false true not_zero is_zero there is = is
      go false false not_zero other there is =
          by_place P xs (n - 1) (m - 1) x old there (λ same. here (grind (arith, nat_tests, same, not_zero, other))) is

  at_place : (xs : List X) (i : ℕ) (x old : X) → slice_get xs i ≡ Some old → slice_get (slice_set xs i x) i ≡ Some x
  at_place [] i x old there = absurd (cc there)
  at_place (y ∷ ys) zero x old there = refl
  at_place (y ∷ ys) (suc i) x old there = at_place ys i x old there

  -- it is there then
  pub put_here : (xs : List X) (n : ℕ) (x old : X) → at_number xs n ≡ Some old → at_number (slice_set xs (n - 1) x) n ≡ Some x
  put_here xs n x old there = go (n == 0) there
    where
      go : (b : Bool) → (if b then None else slice_get xs (n - 1)) ≡ Some old → (if b then None else slice_get (slice_set xs (n - 1) x) (n - 1)) ≡ Some x
      go true there = absurd (cc there)
      go false there = at_place xs (n - 1) x old there

  pub numbered-suc : (xs : List X) (i : ℕ) → at_number xs (suc i) ≡ slice_get xs i
  numbered-suc xs i = ap (λ b. if b then None else slice_get xs (suc i - 1)) (not_zero i) ∙ ap (slice_get xs) (less_one i)

  -- one more at the end
  pub by_more : (P : Option X → Type 0) (xs : List X) (m : ℕ) (x : X) → (P None → m ≡ suc (length xs) → P (Some x)) → P (at_number xs m) →
      P (at_number (xs ++ x ∷ []) m)
  by_more P xs m x new is = go (m == 0) refl is
    where
      go : (b : Bool) → (m == 0) ≡ b → P (if b then None else slice_get xs (m - 1)) → P (if b then None else slice_get (xs ++ x ∷ []) (m - 1))
      go true is_zero is = is
      go false other is = past_place P xs (m - 1) x (λ none same. new none (grind (arith, nat_tests, same, other))) is

pub length-put : {X : Type 0} (xs : List X) (i : ℕ) (x : X) → length (slice_set xs i x) ≡ length xs
length-put [] i x = refl
length-put (y ∷ ys) zero x = refl
length-put (y ∷ ys) (suc i) x = ap suc (length-put ys i x)
