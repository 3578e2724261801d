-- The texts of errors (set(n), unset(n)).
use Rattle.std.specs.Prelude.{ℕ, List, ◌++◌, codes}
use Rattle.tt_vars.specs.declared.answers.VarFault.{VarFault}
use Rattle.tt_vars.specs.declared.answers.VarFault.TheVariants.{NoSuchVariable, NoSuchElement, IsArray, NotArray}

-- why a variable is not read, written or removed
abbrev pub reason : VarFault → List ℕ
reason NoSuchVariable = codes "\": no such variable"
reason NoSuchElement = codes "\": no such element in array"
reason IsArray = codes "\": variable is array"
reason NotArray = codes "\": variable isn't array"

abbrev pub cannot_read : (word : List ℕ) → VarFault → List ℕ
cannot_read word fault = codes "can't read \"" ++ (word ++ reason fault)

abbrev pub cannot_set : (word : List ℕ) → VarFault → List ℕ
cannot_set word fault = codes "can't set \"" ++ (word ++ reason fault)

abbrev pub cannot_unset : (word : List ℕ) → VarFault → List ℕ
cannot_unset word fault = codes "can't unset \"" ++ (word ++ reason fault)
