-- What is left of a list that is taken from the front.
use Rattle.std.specs.Prelude.{◌≡◌, ◌==◌, Bool, List, [], ◌∷◌, length, Option, Some, None}

-- the first was taken, or nothing was left
abbrev pub Takes : {A : Type 0} → Option A → (old new : List A) → Type 0
Takes None old new = (old ≡ []) × (new ≡ [])
Takes (Some first) old new = old ≡ first ∷ new

abbrev pub is_empty : {A : Type 0} → List A → Bool
is_empty rest = length rest == 0
