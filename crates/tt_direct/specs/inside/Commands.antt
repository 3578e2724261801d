-- What comes of commands (Tcl(n)).
use Rattle.std.specs.Prelude.{ℕ, ◌+◌, Bool, true, false, List, Option, Some, None, drop}
use Rattle.std.specs.Arc.{arc_value}
use Rattle.tt_calls.specs.declared.request.Request.TheVariants.{Pause}
use Rattle.tt_evaluation.specs.Frames.{plan_of}
use Rattle.tt_evaluation.specs.Plans.{Asks, Calls}
use Rattle.tt_frames.specs.Frames.{after, command_ended, command_needs, on_got}
use Rattle.tt_frames.specs.Programs.{steps_of}
use Rattle.tt_frames.specs.Scripts.{commands}
use Rattle.tt_frames.specs.Units.{past_limit, spending}
use Rattle.tt_frames.specs.Vocabulary.{OnEnding, TclPlan, Then, same_ending}
use Rattle.tt_frames.specs.declared.job.CommandFrame.{CommandFrame}
use Rattle.tt_frames.specs.declared.job.Frame.TheVariants as frame
use Rattle.tt_kept.specs.declared.kept.Kept.{Kept}
use Rattle.tt_outcomes.specs.Endings.{error_ending}
use Rattle.tt_outcomes.specs.declared.want.Want.TheVariants as want
use Rattle.tt_direct.specs.Leading.{Owes, Stays, TclStack}
use Rattle.tt_direct.specs.inside.Coming.{is_plain, then_came}
use Rattle.tt_direct.specs.declared.came.Came.{Came}
use Rattle.tt_direct.specs.declared.commands.Done.{Done}
use Rattle.tt_direct.specs.declared.commands.Done.TheVariants as done
use Rattle.tt_direct.specs.declared.commands.AfterWords.{AfterWords}
use Rattle.tt_direct.specs.declared.commands.AfterWords.TheVariants as ran
use Rattle.tt_direct.specs.declared.commands.Stop.TheVariants as stop
use Rattle.tt_direct.specs.declared.scripts.Opening.{Opening}
use Rattle.tt_direct.specs.declared.scripts.Opening.TheVariants as first

-- the command of a frame begins: a unit is spent, and then its words are run
abbrev pub begun_command : CommandFrame → Then
begun_command command = spending (command_needs command) (command_ended command (error_ending past_limit))

-- what follows what its words came to
abbrev pub then_ran : AfterWords → (go : OnEnding) → Then
then_ran (ran.Ended ending) go = go ending
then_ran (ran.Calls job) go = λ state. Calls None job state go

-- the commands after that of a frame
abbrev pub commands_after : CommandFrame → (last : List ℕ) → Then
commands_after command =
    commands (arc_value command.program) (drop (command.at + 1) (steps_of (arc_value command.program)))

-- what follows what came of a command that left no calls
abbrev pub then_done : Done → CommandFrame → Then
then_done (done.Fine value) command = commands_after command value
then_done (done.Stops (stop.Ended ending)) command = same_ending ending
then_done (done.Stops stop.Pauses) command = λ state. Asks (want.Ask Pause) state (λ got. command_needs command)
then_done (done.Stops (stop.Needs next)) command = plan_of after on_got next
then_done (done.Stops (stop.Calls next)) command = plan_of after on_got next

-- a command left no calls
abbrev pub leaves_none : Done → Bool
leaves_none (done.Stops (stop.Needs next)) = false
leaves_none (done.Stops (stop.Calls next)) = false
leaves_none done = true

-- what comes of a command on a stack: what follows it, or a move for which its frame is owed
abbrev pub DoneOn : Done → CommandFrame → TclStack → Kept → (whole : TclPlan) → (before : TclStack) → Kept → Type 0
DoneOn (done.Stops (stop.Needs next)) command stack kept whole before held =
    Owes (frame.Needs command) (plan_of after on_got next stack.state) stack kept whole before held
DoneOn (done.Stops (stop.Calls next)) command stack kept whole before held =
    Owes (frame.Does command) (plan_of after on_got next stack.state) stack kept whole before held
DoneOn (done.Stops (stop.Ended ending)) command stack kept whole before held =
    Stays (then_done (done.Stops (stop.Ended ending)) command stack.state) stack kept whole before held
DoneOn (done.Stops stop.Pauses) command stack kept whole before held =
    Stays (then_done (done.Stops stop.Pauses) command stack.state) stack kept whole before held
DoneOn (done.Fine value) command stack kept whole before held =
    Stays (then_done (done.Fine value) command stack.state) stack kept whole before held

-- what follows the spending of a unit: why the command goes no further, or its words
abbrev pub then_spent : Option Done → CommandFrame → Then
then_spent None command = command_needs command
then_spent (Some done) command = then_done done command

-- the next command, or what came of the script
abbrev pub then_passed : Option Came → CommandFrame → Then
then_passed None command = begun_command command
then_passed (Some came) command = then_came came

-- the first command, or what came of the script
abbrev pub then_first : Opening → Then
then_first (first.Does command) = begun_command command
then_first (first.Over came) = then_came came

-- what came of a script that is over has its result apart
abbrev pub is_plain_first : Opening → Bool
is_plain_first (first.Over came) = is_plain came
is_plain_first (first.Does command) = true
