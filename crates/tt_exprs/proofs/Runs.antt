-- The longest run of bytes of a kind at the front of a text.
use Rattle.std.proofs.Common.{◌≡◌, ℕ, ◌+◌, Bool, true, false, List, [], ◌∷◌, ◌++◌, length, take, drop, refl, inl, inr, arith}
use Rattle.std.specs.List.{prefix_len, list_all}
use Rattle.std.proofs.lemmas.Bool.{cases_Bool, and_parts, and_from}
use Rattle.std.proofs.Math.Numerals.{one-add}
use Rattle.tt_exprs.specs.TokenGrammar.{first_is}

module _ (p : ℕ → Bool) where
  -- a front that is of the kind is in the run
  pub run-front : (xs ys : List ℕ) → list_all p xs ≡ true → prefix_len p (xs ++ ys) ≡ length xs + prefix_len p ys
  run-front [] ys h = omega arith
  run-front (x ∷ xs) ys h =
      let parts = and_parts (p x) (list_all p xs) h in
      rw parts.0 (omega (arith, run-front xs ys parts.1))

  -- no run begins with a byte of another kind
  pub run-none : (xs : List ℕ) → first_is p xs ≡ false → prefix_len p xs ≡ 0
  run-none [] h = refl
  run-none (x ∷ xs) h = rw h refl

  -- the run is of the kind
  pub run-kind : (xs : List ℕ) → list_all p (take (prefix_len p xs) xs) ≡ true
  run-kind [] = refl
  run-kind (x ∷ xs) = elim (cases_Bool (p x)) [ inl h ↦ rw h (rw one-add (and_from (p x) _ h (run-kind xs))) | inr h ↦ rw h refl ]

  -- after the run stands a byte of another kind, or the end
  pub run-end : (xs : List ℕ) → first_is p (drop (prefix_len p xs) xs) ≡ false
  run-end [] = refl
  run-end (x ∷ xs) = elim (cases_Bool (p x)) [ inl h ↦ rw h (rw one-add (run-end xs)) | inr h ↦ rw h h ]
