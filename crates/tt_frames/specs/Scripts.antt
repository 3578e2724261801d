-- Scripts and commands (Tcl(n), rules 1, 2, 5 and 7 to 11).
use Rattle.std.specs.Prelude.{ℕ, List, [], ◌∷◌, length, None}
use Rattle.tt_code.specs.Needs.{Needs, Variable, Script, Refused, Values}
use Rattle.tt_outcomes.specs.Endings.{error_ending, fine, of_value}
use Rattle.tt_outcomes.specs.Places.{in_command}
use Rattle.tt_outcomes.specs.declared.ending.Ending.TheVariants.{Fine}
use Rattle.tt_evaluation.specs.Plans.{Ends, Asks, Calls}
use Rattle.tt_script.specs.Messages.{parse_message}
use Rattle.tt_outcomes.specs.declared.got.Got.{Got}
use Rattle.tt_outcomes.specs.declared.got.Got.TheVariants as got
use Rattle.tt_outcomes.specs.declared.want.Want.TheVariants.{ReadVar, RunWords}
use Rattle.tt_frames.specs.Programs.{PlainStep, Wrong, Does, steps_of}
use Rattle.tt_frames.specs.Units.{past_limit, spending}
use Rattle.tt_frames.specs.Vocabulary.{OnEnding, OnValue, Then, ending_of, on_fine}
use Rattle.tt_frames.specs.declared.job.Job.TheVariants as job

-- what follows the values of words
abbrev pub OnValues : Type 0
OnValues = List (List ℕ) → Then

-- what words or an expression need is wanted, one thing after another; another ending than a result goes out
abbrev pub needing : (finish : OnValues) → (quit : OnEnding) → Needs → Then
needing finish quit (Variable name index go) state =
    Asks (ReadVar name index) state (λ got. on_fine (λ value. needing finish quit (go value)) quit (ending_of got))
needing finish quit (Script text go) state =
    Calls None (job.Script text) state (on_fine (λ value. needing finish quit (go value)) quit)
needing finish quit (Refused message) state = quit (error_ending message) state
needing finish quit (Values values) state = finish values state

-- what running a command's words comes to: the host does it, or names a body, or it is one of the commands here
abbrev pub command_then : (go : OnEnding) → Got → Then
command_then go (got.Value outcome) state = go (of_value outcome) state
command_then go (got.Own words) state = Calls None (job.Own words) state go
command_then go (got.RunBody body text) state = Calls None (job.Nested body text) state go
command_then go got state = go (fine []) state

abbrev pub command_of_words : (go : OnEnding) → OnValues
command_of_words go words state = Asks (RunWords words) state (command_then go)

-- how a command ended: on with the next one, or out
abbrev pub command_end : (text : List ℕ) → (start end : ℕ) → (next : OnValue) → OnEnding
command_end text start end next (Fine value) state = next value state
command_end text start end next ending state = Ends (in_command text start end ending) state

-- a command: its words, and then what they do
abbrev pub command : (go : OnEnding) → Needs → Then
command go needs = needing (command_of_words go) go needs

-- the commands of a script, from the result of the one before
abbrev pub commands : (text : List ℕ) → List PlainStep → OnValue
commands text [] last state = Ends (Fine last) state
commands text (Wrong fault start ∷ steps) last state =
    Ends (in_command text start (length text) (error_ending (parse_message fault))) state
commands text (Does needs start end ∷ steps) last state =
    spending
    (command (command_end text start end (commands text steps)) needs)
    (command_end text start end (commands text steps) (error_ending past_limit))
    state

-- a script
abbrev pub script : (text : List ℕ) → Then
script text = commands text (steps_of text) []
