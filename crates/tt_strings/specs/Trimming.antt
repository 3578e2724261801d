-- Characters left out at the ends of a text (string(n), string trim).
use Rattle.std.specs.Prelude.{Bool, true, false, List, [], ◌∷◌, reverse, bytes_eq}
use Rattle.std.specs.List.{list_any}
use Rattle.tt_text.specs.Characters.{Character}
use Rattle.tt_strings.specs.declared.trimming.Side.{Side}
use Rattle.tt_strings.specs.declared.trimming.Side.TheVariants.{Left, Right, Both}

-- one of these characters
abbrev pub is_among : List Character → Character → Bool
is_among characters c = list_any (λ d. bytes_eq c d) characters

-- a text from its first character on that is none of these (string(n), string trimleft)
abbrev pub trim_left : List Character → List Character → List Character
trim_left trimmed [] = []
trim_left trimmed (c ∷ text) = elim (is_among trimmed c) [ true ↦ trim_left trimmed text | false ↦ c ∷ text ]

-- a text up to its last character that is none of these (string(n), string trimright)
abbrev pub trim_right : List Character → List Character → List Character
trim_right trimmed text = reverse (trim_left trimmed (reverse text))

-- a text without these characters at the ends of that side
abbrev pub trim : Side → List Character → List Character → List Character
trim Left trimmed text = trim_left trimmed text
trim Right trimmed text = trim_right trimmed text
trim Both trimmed text = trim_right trimmed (trim_left trimmed text)
