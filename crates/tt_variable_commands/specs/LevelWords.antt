-- Which of the words of a command is a level (upvar(n), uplevel(n)).
use Rattle.std.specs.Prelude.{ℕ, ◌%◌, ◌==◌, ◌||◌, Bool, true, false, List, [], ◌∷◌, length, codes}
use Rattle.std.specs.Char.{is_digit}

-- upvar(n) has a level if the number of its words is odd
abbrev pub is_odd : (words : List (List ℕ)) → Bool
is_odd words = length words % 2 == 1

-- a word begins with `#` or a digit
abbrev pub begins_level : (word : List ℕ) → Bool
begins_level [] = false
begins_level (b ∷ word) = b == 35 || is_digit b 10

-- uplevel(n) has a level if the first of several words begins so
abbrev pub is_levelled : (words : List (List ℕ)) → Bool
is_levelled [] = false
is_levelled (word ∷ []) = false
is_levelled (word ∷ next ∷ words) = begins_level word

-- the level that stands first, else 1; and the words without it
abbrev pub level_and_words : (has_level : Bool) → (words : List (List ℕ)) → List ℕ × List (List ℕ)
level_and_words true (level ∷ words) = (level, words)
level_and_words true [] = (codes "1", [])
level_and_words false words = (codes "1", words)
