-- What is left of a list.
use Rattle.std.proofs.Common.{◌≡◌, ℕ, suc, ◌+◌, ◌<◌, List, ◌∷◌, length, get_or, drop, sym, ap, add-one, drop-cons}

-- if one more comes
pub next-left : {X : Type 0} (names : List X) (i : ℕ) (name : X) → i < length names → name ≡ get_or names i name → drop i names ≡ name ∷ drop (i + 1) names
next-left names i name within is = rw (add-one, drop-cons names i name) (ap (λ x. x ∷ drop (suc i) names) (sym is))
