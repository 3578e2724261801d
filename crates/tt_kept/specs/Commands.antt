-- The commands that an interpreter does itself: procedures first, then those that read and change what it keeps
-- (proc(n), info(n), unknown(n)).
use Rattle.std.specs.Prelude.{◌≡◌, ℕ, Bool, true, false, ◌&&◌, bytes_eq, List, [], ◌∷◌, codes, drop, Option, Some, None}
use Rattle.tt_calls.specs.declared.outcome.Outcome.{Outcome}
use Rattle.tt_dictionaries.specs.Commands as dictionaries
use Rattle.tt_variable_commands.specs.ArrayCommands as arrays
use Rattle.tt_variable_commands.specs.LevelCommands as levels
use Rattle.tt_procedures.specs.Procedures as procedures
use Rattle.tt_procedures.specs.Procedures.{Defines, call, names}
use Rattle.tt_procedures.specs.declared.calling.Called.{Called}
use Rattle.tt_procedures.specs.declared.calling.Called.TheVariants as called
use Rattle.tt_script.specs.Names.{plain_name}
use Rattle.tt_store.specs.Commands as variables
use Rattle.tt_store.specs.Held.{Calls, Held}
use Rattle.tt_store.specs.declared.answers.Answer.{Answer}
use Rattle.tt_store.specs.declared.answers.Answer.TheVariants as answers
use Rattle.tt_outcomes.specs.declared.want.Body.TheVariants.{Procedure}
use Rattle.tt_kept.specs.declared.commands.Own.{Own}
use Rattle.tt_kept.specs.declared.commands.Own.TheVariants as own
use Rattle.tt_kept.specs.declared.kept.Kept.{Kept}

abbrev pub with_store : Kept → Held → Kept
with_store kept store = record kept { store = store }

abbrev pub with_procedures : Kept → procedures.Table → Kept
with_procedures kept procedures = record kept { procedures = procedures }

-- ---- procedures ----

-- the word that a command begins with
abbrev pub first_word : (words : List (List ℕ)) → List ℕ
first_word [] = []
first_word (word ∷ words) = word

-- a procedure's body is to be evaluated in a frame of its own, or the words don't fit
abbrev pub CallsBody : Called → (words : List (List ℕ)) → (old : Kept) → Answer → (new : Kept) → Type 0
CallsBody (called.Body arguments body) words old answer new =
    Calls arguments old.store new.store
    × (answer ≡ answers.Body (Procedure (first_word words)) body)
    × (new ≡ with_store old new.store)
CallsBody (called.Wrong outcome) words old answer new = (answer ≡ answers.Outcome outcome) × (new ≡ old)

-- ---- commands on procedures ----

-- which of them words ask for
abbrev pub own_by : (defines lists : Bool) → Own
own_by true lists = own.Define
own_by false true = own.Names
own_by false false = own.Other

abbrev pub names_command : (name : List ℕ) → (words : List (List ℕ)) → Bool
names_command name [] = false
names_command name (word ∷ words) = bytes_eq (plain_name word) name

abbrev pub has_next : (next : List ℕ) → (words : List (List ℕ)) → Bool
has_next next [] = false
has_next next (word ∷ []) = false
has_next next (word ∷ second ∷ words) = bytes_eq second next

-- `proc`, `info procs`, or another command
abbrev pub own_of : (words : List (List ℕ)) → Own
own_of words =
    own_by (names_command (codes "proc") words)
    (names_command (codes "info") words && has_next (codes "procs") words)

-- ---- commands on variables ----

-- what a table says of words: an answer, and the variables then
abbrev pub Table : Type 1
Table = (words : List (List ℕ)) → (old : Held) → Answer → (new : Held) → Type 0

-- what one table answers stands; if it has no such command, another one says
abbrev pub Continues : Answer → Table → Table
Continues answers.Other other words old answer new = other words old answer new
Continues first other words old answer new = (answer ≡ first) × (new ≡ old)

abbrev pub Either : (one other : Table) → Table
Either one other words old answer new =
    (first : Answer) × (next : Held) × one words old first next × Continues first other words next answer new

-- single variables, then levels and links, then arrays, then dictionaries
abbrev pub OnVariables : Table
OnVariables = Either variables.Runs (Either levels.Runs (Either arrays.Runs dictionaries.Runs))

-- ---- all commands ----

abbrev pub RunsOwn : Own → (words : List (List ℕ)) → (old : Kept) → Answer → (new : Kept) → Type 0
RunsOwn own.Define words old answer new =
    (outcome : Outcome)
    × Defines (drop 1 words) old.procedures outcome new.procedures
    × (answer ≡ answers.Outcome outcome)
    × (new ≡ with_procedures old new.procedures)
RunsOwn own.Names words old answer new =
    (answer ≡ answers.Outcome (names old.procedures (drop 2 words))) × (new ≡ old)
RunsOwn own.Other words old answer new =
    OnVariables words old.store answer new.store × (new ≡ with_store old new.store)

abbrev pub RunsBy : Option Called → (words : List (List ℕ)) → (old : Kept) → Answer → (new : Kept) → Type 0
RunsBy (Some called) words old answer new = CallsBody called words old answer new
RunsBy None words old answer new = RunsOwn (own_of words) words old answer new

-- a whole command, its name first
abbrev pub Runs : (words : List (List ℕ)) → (old : Kept) → Answer → (new : Kept) → Type 0
Runs words old answer new = RunsBy (call old.procedures words) words old answer new
