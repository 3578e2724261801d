-- The errors of a command's words (Tcl(n)).
use Rattle.std.specs.Prelude.{ℕ, Bool, false, ◌==◌, List, [], ◌∷◌}
use Rattle.tt_calls.specs.Usages as usages
use Rattle.tt_control.specs.declared.control.Control.{Control}
use Rattle.tt_control.specs.declared.control.Control.TheVariants.{Bad}

-- what words mean, if something else is meant by a wrong number of them
abbrev pub Meaning : Type 0
Meaning = (wrong : Control) → (words : List (List ℕ)) → Control

-- too few words for a usage, or too many
abbrev pub wrong_number : (usage : List ℕ) → Control
wrong_number usage = Bad (usages.wrong_number usage)

-- a word that is no option
abbrev pub bad_option : (word : List ℕ) → Control
bad_option word = Bad (usages.bad_option word)

-- a value that its option can't have
abbrev pub bad_value : (word : List ℕ) → Control
bad_value word = Bad (usages.bad_value word)

-- a word that is meant as an option: it begins with `-`, and is longer
abbrev pub is_meant : (word : List ℕ) → Bool
is_meant [] = false
is_meant (b ∷ []) = false
is_meant (b ∷ next ∷ word) = b == 45
