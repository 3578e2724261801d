-- The parameters of a procedure, as their list is read (proc(n)).
use Rattle.std.specs.Prelude.{ℕ, Bool, false, ◌&&◌, not, is_some, List, [], ◌∷◌, ◌++◌, Option, Some, None, Result, Ok}
use Rattle.std.specs.Prelude.{Err, if◌then◌else◌}
use Rattle.tt_lists.specs.Messages.{list_message}
use Rattle.tt_lists.specs.Reading.{split_of}
use Rattle.tt_lists.specs.declared.items.Split.{Split}
use Rattle.tt_lists.specs.declared.items.Split.TheVariants.{Items, Bad}
use Rattle.tt_script.specs.Names.{element_of, global_of}
use Rattle.tt_procedures.specs.declared.procedure.Parameter.{Parameter}
use Rattle.tt_procedures.specs.Messages.{bad_parameter}

-- a name of a parameter is not empty, is no element's, and has no leading `::`
abbrev pub is_good : (name : List ℕ) → Bool
is_good [] = false
is_good (b ∷ name) = not (is_some (element_of (b ∷ name))) && not (is_some (global_of (b ∷ name)))

abbrev pub parameter_named : (name : List ℕ) → (default : Option (List ℕ)) → Option Parameter
parameter_named name default = if is_good name then Some (record { name = name; default = default }) else None

-- `name` or `{name default}`
abbrev pub parameter_in : (items : List (List ℕ)) → Option Parameter
parameter_in [] = None
parameter_in (name ∷ []) = parameter_named name None
parameter_in (name ∷ default ∷ []) = parameter_named name (Some default)
parameter_in (name ∷ default ∷ more ∷ items) = None

-- a parameter's text that is no list is bad too
abbrev pub parameter_by : Split → Option Parameter
parameter_by (Items items) = parameter_in items
parameter_by (Bad fault) = None

abbrev pub parameter_of : (text : List ℕ) → Option Parameter
parameter_of text = parameter_by (split_of text)

-- the parameters of texts after those that were read, or what is reported of the first bad one
abbrev pub parameters_from : (read : List Parameter) → (texts : List (List ℕ)) → Result (List Parameter) (List ℕ)
parameters_from read [] = Ok read
parameters_from read (text ∷ texts) =
    elim (parameter_of text) [
      | Some parameter ↦ parameters_from (read ++ parameter ∷ []) texts
      | None ↦ Err (bad_parameter text)
    ]

abbrev pub parameters_by : Split → Result (List Parameter) (List ℕ)
parameters_by (Items texts) = parameters_from [] texts
parameters_by (Bad fault) = Err (list_message fault)

-- the parameters of a list, or why it is none
abbrev pub parameters_of : (list : List ℕ) → Result (List Parameter) (List ℕ)
parameters_of list = parameters_by (split_of list)
