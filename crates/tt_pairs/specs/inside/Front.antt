-- Pairs at the front of a list: a word of the code's own contracts.
use Rattle.std.specs.Prelude.{ℕ, List, [], ◌∷◌, Option, Some, None}

-- a key and a value at the front of a list, and what follows them
abbrev pub first_pair : (items : List (List ℕ)) → Option (List ℕ × List ℕ × List (List ℕ))
first_pair [] = None
first_pair (key ∷ []) = None
first_pair (key ∷ value ∷ items) = Some (key, value, items)
