-- Characters by their places (string(n)). A text is the list of its characters; the first is at place 0.
use Rattle.std.specs.Prelude.{ℕ, ◌+◌, ℤ, pos, negsuc, List, [], take, drop, slice_index_or}
use Rattle.std.specs.List.{flat_map}
use Rattle.tt_text.specs.Characters.{Character}

-- the text that characters are, one after the other
abbrev pub bytes_of : List Character → List ℕ
bytes_of characters = flat_map (λ c. c) characters

-- the character at a place, and the empty text outside (string(n), string index)
abbrev pub character_at : ℤ → List Character → Character
character_at (pos n) characters = slice_index_or characters n []
character_at (negsuc n) characters = []

-- how many characters stand before a place: none before one that is less than 0
abbrev pub places_before : ℤ → ℕ
places_before (pos n) = n
places_before (negsuc n) = 0

-- how many stand before the place after it
abbrev pub places_through : ℤ → ℕ
places_through (pos n) = n + 1
places_through (negsuc n) = 0

-- the characters from the place `first` to the place `last`, as far as there are any (string(n), string range)
abbrev pub range : ℤ → ℤ → List Character → List Character
range first last characters = drop (places_before first) (take (places_through last) characters)
