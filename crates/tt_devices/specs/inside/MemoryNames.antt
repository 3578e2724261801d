-- How a file in memory is found.
use Rattle.std.specs.Prelude.{◌≡◌, true, false, ℕ, zero, suc, List, [], ◌∷◌}
use Rattle.std.specs.Str.{bytes_eq}
use Rattle.tt_devices.specs.Memory.{NamedBytes}

-- the first file of this name is at this place
abbrev pub IsFirstNamed : List NamedBytes → List ℕ → ℕ → Type 0
IsFirstNamed [] name place = ⊥
IsFirstNamed (file ∷ files) name zero = bytes_eq file.name name ≡ true
IsFirstNamed (file ∷ files) name (suc place) = (bytes_eq file.name name ≡ false) × IsFirstNamed files name place
