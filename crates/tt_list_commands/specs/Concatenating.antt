-- Texts one after another (concat(n)).
use Rattle.std.specs.Prelude.{ℕ, Bool, true, false, List, [], ◌∷◌, codes, map}
use Rattle.std.specs.List.{filter}
use Rattle.tt_list_commands.specs.Joining.{joined_text}
use Rattle.tt_number.specs.Numerals.{trimmed}

-- a text with something in it
abbrev pub has_some : List ℕ → Bool
has_some [] = false
has_some (b ∷ text) = true

-- the texts without the white space around them, those that are empty then left out, with a space between each two
abbrev pub concatenation : List (List ℕ) → List ℕ
concatenation texts = joined_text (codes " ") (filter has_some (map trimmed texts))
