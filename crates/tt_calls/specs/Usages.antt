-- How words that a command doesn't take are reported (Tcl(n), and the manual page of each command).
use Rattle.std.specs.Prelude.{ℕ, List, ◌++◌, codes}

-- that words are too few or too many for a usage
abbrev pub wrong_number : (usage : List ℕ) → List ℕ
wrong_number usage = codes "wrong # args: should be \"" ++ (usage ++ codes "\"")

-- that a word is no option, or no subcommand
abbrev pub bad_option : (word : List ℕ) → List ℕ
bad_option word = codes "bad option \"" ++ (word ++ codes "\"")

-- that an option doesn't have such a value
abbrev pub bad_value : (word : List ℕ) → List ℕ
bad_value word = codes "bad value \"" ++ (word ++ codes "\"")
