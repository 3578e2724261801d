-- Sums of weights over a list.
use Rattle.std.proofs.Common.{◌≡◌, ◌+◌, ◌≤◌, ℕ, Bool, cond, List, [], ◌∷◌, ◌++◌}
use Rattle.std.proofs.Common.{count_by, refl, arith}
use Rattle.std.proofs.lemmas.List.Sums.{sum_by-cons}

abbrev pub total : {X : Type 0} → (X → ℕ) → List X → ℕ
total w [] = 0
total w (x ∷ xs) = w x + total w xs

module _ {X : Type 0} where
  pub total-append : (w : X → ℕ) (xs ys : List X) → total w (xs ++ ys) ≡ total w xs + total w ys
  total-append w [] ys = omega arith
  total-append w (x ∷ xs) ys = omega (arith, total-append w xs ys)

  pub total-le : (v w : X → ℕ) → ((x : X) → v x ≤ w x) → (xs : List X) → total v xs ≤ total w xs
  total-le v w each [] = omega arith
  total-le v w each (x ∷ xs) = omega (arith, each x, total-le v w each xs)

  -- two weights of which one alone counts
  pub total-two : (u v w : X → ℕ) → ((x : X) → u x + v x ≤ w x) → (xs : List X) → total u xs + total v xs ≤ total w xs
  total-two u v w each [] = omega arith
  total-two u v w each (x ∷ xs) = omega (arith, each x, total-two u v w each xs)

  pub total-none : (w : X → ℕ) → ((x : X) → w x ≡ 0) → (xs : List X) → total w xs ≡ 0
  total-none w each [] = refl
  total-none w each (x ∷ xs) = omega (arith, each x, total-none w each xs)

  pub total-count : (p : X → Bool) (w : X → ℕ) → ((x : X) → cond (p x) 1 0 ≡ w x) → (xs : List X) → count_by p xs ≡ total w xs
  total-count p w each [] = refl
  total-count p w each (x ∷ xs) = omega (arith, sum_by-cons (λ x. cond (p x) 1 0) x xs, each x, total-count p w each xs)
