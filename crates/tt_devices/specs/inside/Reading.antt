-- When a file is too long, if its bytes are shown.
use Rattle.std.specs.Prelude.{◌≡◌, ◌<◌, ℕ, List, length, Option, Some, None}
use Rattle.tt_devices.specs.Names.{Names}

-- the map has more than so many bytes under this name
abbrev pub IsLonger : Option Names → List ℕ → ℕ → Type 0
IsLonger None name count = Unit {0}
IsLonger (Some map) name count = (bytes : List ℕ) × (map name ≡ Some bytes) × (count < length bytes)
