-- How errors are reported (proc(n), info(n)).
use Rattle.std.specs.Prelude.{ℕ, List, ◌++◌, codes}

-- that a text is no parameter
abbrev pub bad_parameter : (text : List ℕ) → List ℕ
bad_parameter text = codes "bad parameter \"" ++ (text ++ codes "\"")
