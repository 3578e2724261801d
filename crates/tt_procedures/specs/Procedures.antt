-- Procedures by name: how they are defined and called, and which there are (proc(n), info(n)).
use Rattle.std.specs.Prelude.{◌≡◌, ℕ, Bool, bytes_eq, List, [], ◌∷◌, codes, Option, None, Result, Ok, Err}
use Rattle.std.specs.List.{filter}
use Rattle.std.specs.Map.{keys_of, lookup}
use Rattle.std.specs.Option.{option_map}
use Rattle.indexmap.specs.IndexMap.{insert_entry}
use Rattle.tt_text.specs.Characters.{characters}
use Rattle.tt_text.specs.GlobFunction.{is_match}
use Rattle.tt_calls.specs.declared.outcome.Outcome.{Outcome}
use Rattle.tt_calls.specs.Outcomes.{error_outcome, fine}
use Rattle.tt_lists.specs.Spelling.{list_of}
use Rattle.tt_script.specs.Names.{plain_name}
use Rattle.tt_procedures.specs.declared.calling.Called.{Called}
use Rattle.tt_procedures.specs.declared.procedure.Parameter.{Parameter}
use Rattle.tt_procedures.specs.declared.procedure.Procedure.{Procedure}
use Rattle.tt_procedures.specs.Calling.{call_of}
use Rattle.tt_calls.specs.Usages.{wrong_number}
use Rattle.tt_procedures.specs.Parameters.{parameters_of}

-- pairs of a name and a procedure, in order of first definition
abbrev pub Table : Type 0
Table = List (List ℕ × Procedure)

-- the procedure that a word names
abbrev pub procedure_named : (word : List ℕ) → Table → Option Procedure
procedure_named word table = lookup (bytes_eq (plain_name word)) table

-- the table if the name is this procedure: in the place of an older one, or last
abbrev pub with_procedure : Table → (name : List ℕ) → Procedure → Table
with_procedure table name procedure = insert_entry bytes_eq table name procedure

-- a command fails, and changes nothing
abbrev pub Fails : (message : List ℕ) → (old : Table) → Outcome → (new : Table) → Type 0
Fails message old outcome new = (outcome ≡ error_outcome message) × (new ≡ old)

-- a procedure is defined, if its parameters could be read
abbrev pub DefinesBy :
    Result (List Parameter) (List ℕ) →
    (word body : List ℕ) →
    (old : Table) →
    Outcome →
    (new : Table) →
    Type 0
DefinesBy (Ok parameters) word body old outcome new =
    (outcome ≡ fine [])
    × (new ≡ with_procedure old (plain_name word) (record { parameters = parameters; body = body }))
DefinesBy (Err message) word body old outcome new = Fails message old outcome new

-- proc(n), by the words after the command's name
abbrev pub Defines : (words : List (List ℕ)) → (old : Table) → Outcome → (new : Table) → Type 0
Defines (word ∷ parameters ∷ body ∷ []) old outcome new =
    DefinesBy (parameters_of parameters) word body old outcome new
Defines words old outcome new = Fails (wrong_number (codes "proc name args body")) old outcome new

-- a command, its name first, as the call of a procedure
abbrev pub call : Table → (words : List (List ℕ)) → Option Called
call table [] = None
call table (word ∷ words) = option_map (call_of word words) (procedure_named word table)

-- a name is like the pattern
abbrev pub is_like : (pattern name : List ℕ) → Bool
is_like pattern name = is_match (characters pattern) (characters name)

-- info procs, by the words after the subcommand
abbrev pub names : Table → (words : List (List ℕ)) → Outcome
names table [] = fine (list_of (keys_of table))
names table (pattern ∷ []) = fine (list_of (filter (is_like pattern) (keys_of table)))
names table (pattern ∷ more ∷ words) = error_outcome (wrong_number (codes "info procs ?pattern?"))
