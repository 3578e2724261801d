-- The call of a procedure: the values of its parameters, and how its usage is reported (proc(n)).
use Rattle.std.specs.Prelude.{ℕ, Bool, true, false, bytes_eq, List, [], ◌∷◌, ◌++◌, codes, drop, Option, Some, None}
use Rattle.std.specs.Option.{option_map}
use Rattle.tt_calls.specs.Outcomes.{error_outcome}
use Rattle.tt_lists.specs.Spelling.{list_of}
use Rattle.tt_procedures.specs.declared.calling.Argument.{Argument}
use Rattle.tt_procedures.specs.declared.calling.Called.{Called}
use Rattle.tt_procedures.specs.declared.calling.Called.TheVariants.{Body, Wrong}
use Rattle.tt_procedures.specs.declared.procedure.Parameter.{Parameter}
use Rattle.tt_procedures.specs.declared.procedure.Procedure.{Procedure}
use Rattle.tt_calls.specs.Usages.{wrong_number}

-- a last parameter `args` takes all words that are left
abbrev pub takes_rest : Parameter → (later : List Parameter) → Bool
takes_rest parameter [] = bytes_eq parameter.name (codes "args")
takes_rest parameter (next ∷ later) = false

-- the value of the first of parameters: these words as a list, the first of them, or else its default
abbrev pub first_value : (rest : Bool) → Parameter → (words : List (List ℕ)) → Option (List ℕ)
first_value true parameter words = Some (list_of words)
first_value false parameter (word ∷ words) = Some word
first_value false parameter [] = parameter.default

-- the words that it leaves
abbrev pub words_after : (rest : Bool) → (words : List (List ℕ)) → List (List ℕ)
words_after true words = []
words_after false words = drop 1 words

abbrev pub argument : (name value : List ℕ) → Argument
argument name value = record { name = name; value = value }

-- parameters with their values; None if a value is missing, or a word is too much
abbrev pub arguments_of : List Parameter → (words : List (List ℕ)) → Option (List Argument)
arguments_of [] [] = Some []
arguments_of [] (word ∷ words) = None
arguments_of (parameter ∷ later) words =
    elim (first_value (takes_rest parameter later) parameter words) [
      | Some value ↦
          option_map (λ arguments. argument parameter.name value ∷ arguments)
          (arguments_of later (words_after (takes_rest parameter later) words))
      | None ↦ None
    ]

-- how a parameter reads in a usage
abbrev pub optional : (name : List ℕ) → List ℕ
optional name = codes "?" ++ (name ++ codes "?")

abbrev pub usage_part_by : (rest : Bool) → (name : List ℕ) → (default : Option (List ℕ)) → List ℕ
usage_part_by true name default = codes "?arg ...?"
usage_part_by false name (Some default) = optional name
usage_part_by false name None = name

abbrev pub usage_part : Parameter → (later : List Parameter) → List ℕ
usage_part parameter later = usage_part_by (takes_rest parameter later) parameter.name parameter.default

abbrev pub usage_parts : List Parameter → List ℕ
usage_parts [] = []
usage_parts (parameter ∷ later) = codes " " ++ (usage_part parameter later ++ usage_parts later)

-- the usage of a procedure that is called by this word
abbrev pub usage : (word : List ℕ) → List Parameter → List ℕ
usage word parameters = word ++ usage_parts parameters

-- the call of a procedure by this word with these words after it
abbrev pub call_with : Option (List Argument) → (word : List ℕ) → Procedure → Called
call_with (Some arguments) word procedure = Body arguments procedure.body
call_with None word procedure = Wrong (error_outcome (wrong_number (usage word procedure.parameters)))

abbrev pub call_of : (word : List ℕ) → (words : List (List ℕ)) → Procedure → Called
call_of word words procedure = call_with (arguments_of procedure.parameters words) word procedure
