-- The words that plans are written in.
use Rattle.std.specs.Prelude.{ℕ, List, [], bytes_eq, codes, if◌then◌else◌, Option, Some, None}
use Rattle.tt_outcomes.specs.Endings.{fine, of_value}
use Rattle.tt_outcomes.specs.declared.ending.Ending.{Ending}
use Rattle.tt_outcomes.specs.declared.ending.Ending.TheVariants.{Fine}
use Rattle.tt_evaluation.specs.Plans.{Plan, Asks, Ends}
use Rattle.tt_script.specs.Names.{element_of}
use Rattle.tt_outcomes.specs.declared.got.Got.{Got}
use Rattle.tt_outcomes.specs.declared.got.Got.TheVariants as got
use Rattle.tt_outcomes.specs.declared.want.Want.{Want}
use Rattle.tt_outcomes.specs.declared.want.Want.TheVariants.{WriteVar}
use Rattle.tt_frames.specs.declared.job.Job.{Job}
use Rattle.tt_frames.specs.declared.state.Counts.{Counts}

abbrev pub TclPlan : Type 0
TclPlan = Plan Job Want Got Ending Counts

-- what follows
abbrev pub Then : Type 0
Then = Counts → TclPlan

-- what follows an ending
abbrev pub OnEnding : Type 0
OnEnding = Ending → Counts → TclPlan

-- what follows a value
abbrev pub OnValue : Type 0
OnValue = List ℕ → Counts → TclPlan

-- what was got as an ending: of what isn't answered by a value, nothing
abbrev pub ending_of : Got → Ending
ending_of (got.Value outcome) = of_value outcome
ending_of got = fine []

-- on with a result, or out with another ending
abbrev pub on_fine : (go : OnValue) → (quit : OnEnding) → OnEnding
on_fine go quit (Fine value) state = go value state
on_fine go quit ending state = quit ending state

-- an ending as it is
abbrev pub same_ending : OnEnding
same_ending ending state = Ends ending state

-- on with one of two, by the result of a condition
abbrev pub on_truth : (holds fails : Then) → OnEnding
on_truth holds fails = on_fine (λ value st. (if bytes_eq value (codes "1") then holds else fails) st) same_ending

-- a variable or an element is set, by a name as commands are given it (set(n))
abbrev pub set_name : Option (List ℕ × List ℕ) → (name value : List ℕ) → Want
set_name None name value = WriteVar name None value
set_name (Some (array, index)) name value = WriteVar array (Some index) value

abbrev pub setting : (name value : List ℕ) → Want
setting name value = set_name (element_of name) name value

-- a variable is set, and then that is the result
abbrev pub variable_then : (name value result : List ℕ) → Then
variable_then name value result state =
    Asks (setting name value) state (λ got. on_fine (λ old. same_ending (Fine result)) same_ending (ending_of got))

-- likewise, if there is a variable
abbrev pub variable_result : Option (List ℕ) → (value result : List ℕ) → Then
variable_result None value result = same_ending (Fine result)
variable_result (Some name) value result = variable_then name value result

-- errorInfo gets a trace; if it can't be written nothing changes (tclvars(n))
abbrev pub with_error_info : (trace : List ℕ) → (go : Then) → Then
with_error_info trace go state = Asks (WriteVar (codes "::errorInfo") None trace) state (λ got. go)
