-- The room of a short text.
use Rattle.std.specs.Prelude.{◌≡◌, ℕ, List, drop, replicate}

-- beyond the first bytes, so many, it has nothing but 0
abbrev pub IsRoom : (len : ℕ) → (room : List ℕ) → Type 0
IsRoom len room = drop len room ≡ drop len (replicate 14 0)
