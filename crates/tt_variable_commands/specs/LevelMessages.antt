-- How errors of levels and links are reported (upvar(n), uplevel(n)).
use Rattle.std.specs.Prelude.{ℕ, List, ◌++◌, codes}

-- that a word is no level, or that there is no such frame
abbrev pub bad_level : (word : List ℕ) → List ℕ
bad_level word = codes "bad level \"" ++ (word ++ codes "\"")

-- that a word can't be the name of a link
abbrev pub bad_name : (word : List ℕ) → List ℕ
bad_name word = codes "bad variable name \"" ++ (word ++ codes "\"")

-- that a name is in use
abbrev pub in_use : (word : List ℕ) → List ℕ
in_use word = codes "variable \"" ++ (word ++ codes "\" already exists")

-- that a name would be a link to itself
abbrev pub to_itself : List ℕ
to_itself = codes "can't upvar from variable to itself"
