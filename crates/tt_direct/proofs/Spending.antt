-- How commands of a script go.
use Rattle.std.proofs.Common.{◌≡◌, ℕ, ◌+◌, List, [], ◌∷◌, drop, length, sym, ap, ◌∙◌}
use Rattle.std.specs.Arc.{arc_value}
use Rattle.tt_calls.specs.declared.request.Request.TheVariants.{Pause}
use Rattle.tt_code.specs.Needs.{Needs}
use Rattle.tt_code.specs.Running.{needs}
use Rattle.tt_code.specs.declared.running.Running.{Running}
use Rattle.tt_evaluation.specs.Plans.{Asks, Ends, Goes}
use Rattle.tt_frames.specs.Frames.{after, command_ended, command_needs}
use Rattle.tt_frames.specs.Programs.{Does, PlainStep, Wrong, steps_of}
use Rattle.tt_frames.specs.Scripts.{command, commands, command_then, command_of_words}
use Rattle.tt_frames.specs.Units.{by_unit, past_limit, spending, counts_after_unit, unit_of}
use Rattle.tt_frames.specs.Vocabulary.{OnEnding, TclPlan, Then}
use Rattle.tt_frames.specs.declared.job.CommandFrame.{CommandFrame}
use Rattle.tt_frames.specs.declared.job.Frame.TheVariants as frames
use Rattle.tt_frames.specs.declared.job.Job.TheVariants as job
use Rattle.tt_frames.specs.declared.state.Counts.{Counts}
use Rattle.tt_frames.specs.declared.state.Unit.{Unit}
use Rattle.tt_frames.specs.declared.state.Unit.TheVariants.{Past, Pauses, Spent}
use Rattle.tt_frames.proofs.Fronts.{begun}
use Rattle.tt_kept.specs.Answering.{Answers}
use Rattle.tt_kept.specs.declared.kept.Kept.{Kept}
use Rattle.tt_outcomes.specs.Endings.{error_ending}
use Rattle.tt_outcomes.specs.Places.{in_command}
use Rattle.tt_outcomes.specs.declared.ending.Ending.{Ending}
use Rattle.tt_outcomes.specs.declared.ending.Ending.TheVariants.{Fine}
use Rattle.tt_outcomes.specs.declared.got.Got.{Got}
use Rattle.tt_outcomes.specs.declared.want.Want.TheVariants as want
use Rattle.tt_outcomes.specs.declared.want.Want.TheVariants.{RunWords}
use Rattle.tt_script.specs.Messages.{parse_message}
use Rattle.tt_script.specs.declared.command.ParseFault.{ParseFault}
use Rattle.tt_direct.proofs.Needing.{Meets, met_as, script_called}
use Rattle.tt_direct.proofs.Remains.{given, remains_as}
use Rattle.tt_direct.specs.Leading.{GoesOn, Stays, TclStack}
use Rattle.tt_direct.specs.inside.Coming.{CalledOn, CameOn}
use Rattle.tt_direct.specs.inside.Commands.{begun_command, then_ran}
use Rattle.tt_direct.specs.inside.Needing.{after_ending, then_met}
use Rattle.tt_direct.specs.declared.came.Came.{Came}
use Rattle.tt_direct.specs.declared.commands.AfterWords.{AfterWords}
use Rattle.tt_direct.specs.declared.needs.Met.{Met}
use Rattle.tt_direct.specs.declared.needs.Met.TheVariants as met

-- ---- units ----

by_its_unit : (go past : Then) (old : Counts) (unit : Unit) → unit_of old ≡ unit → spending go past old ≡ by_unit unit (counts_after_unit old) go past
by_its_unit go past old unit is = ap (λ (u : Unit). by_unit u (counts_after_unit old) go past) is

pub unit_past : (go past : Then) (old new : Counts) → unit_of old ≡ Past → new ≡ counts_after_unit old → spending go past old ≡ past new
unit_past go past old new unit is = by_its_unit go past old Past unit ∙ ap past (sym is)

pub unit_pauses : (go past : Then) (old new : Counts) → unit_of old ≡ Pauses → new ≡ counts_after_unit old
    → spending go past old ≡ Asks (want.Ask Pause) new (λ got. go)
unit_pauses go past old new unit is =
    by_its_unit go past old Pauses unit ∙ ap (λ (s : Counts). by_unit Pauses s go past) (sym is)

pub unit_spent : (go past : Then) (old new : Counts) → unit_of old ≡ Spent → new ≡ counts_after_unit old → spending go past old ≡ go new
unit_spent go past old new unit is = by_its_unit go past old Spent unit ∙ ap go (sym is)

-- ---- words ----

-- what the words of a command come to
pub ran_on : (ran : AfterWords) (words : List (List ℕ)) (got : Got) (kept held : Kept) (go : OnEnding) (state : Counts)
    → Answers (RunWords words) held got kept → command_then go got state ≡ then_ran ran go state
    → GoesOn (then_ran ran go state) kept (command_of_words go words state) held
ran_on ran words got kept held go state gives is =
    remains_as (command_then go got state) (then_ran ran go state) (command_of_words go words state) is
    (given (RunWords words) state (command_then go) got kept held gives)

-- the words of the command are there, or it ended
pub words_met : {kept held first : Kept} {whole : TclPlan} {before : TclStack} (what : Met) (now : Running) (began : CommandFrame) (plan : TclPlan)
    (stack : TclStack)
    → Meets what now kept began.running held
    → then_met what now (command_of_words (command_ended began)) (command_ended began) stack.state ≡ plan
    → Stays (command_needs began stack.state) stack held whole before first
    → Stays plan stack kept whole before first
words_met what now began plan stack meets is on =
    met_as what now began.running (command_of_words (command_ended began)) (command_ended began) plan stack meets is on

-- the words of the command need a script, which was called
pub words_called : {held first : Kept} {whole : TclPlan} {before : TclStack} (new kept : Kept) (what : Met) (now began : CommandFrame) (text : List ℕ) (came : Came)
    (stack middle : TclStack)
    → Meets what now.running kept began.running held → what ≡ met.Script text
    → after_ending now.running (command_of_words (command_ended began)) (command_ended began) ≡ after (frames.Needs now)
    → Stays (command_needs began middle.state) middle held whole before first
    → CameOn came stack new (Goes (job.Script text) middle.state) middle kept
    → CalledOn (frames.Needs now) came stack new whole before first
words_called new kept what now began text came stack middle meets is same on goes =
    script_called new kept what now.running began.running (command_of_words (command_ended began)) (command_ended began) (frames.Needs now) text came stack middle
    meets is same on goes

-- ---- the commands of a script ----

pub none_left : (text : List ℕ) (steps : List PlainStep) (last : List ℕ) (state : Counts) → steps ≡ [] → commands text steps last state ≡ Ends (Fine last) state
none_left text steps last state is = ap (λ (l : List PlainStep). commands text l last state) is

pub unread_left : (text : List ℕ) (steps tail : List PlainStep) (last : List ℕ) (fault : ParseFault) (start : ℕ) (ending : Ending) (state : Counts)
    → steps ≡ Wrong fault start ∷ tail → ending ≡ in_command text start (length text) (error_ending (parse_message fault))
    → commands text steps last state ≡ Ends ending state
unread_left text steps tail last fault start ending state is same =
    ap (λ (l : List PlainStep). commands text l last state) is ∙ ap (λ (e : Ending). Ends e state) (sym same)

-- the next command is that of the frame
pub next_left : (frame : CommandFrame) (needed : Needs) (start end : ℕ) (last : List ℕ) (state : Counts)
    → drop frame.at (steps_of (arc_value frame.program)) ≡ Does needed start end ∷ drop (frame.at + 1) (steps_of (arc_value frame.program))
    → needs frame.running ≡ needed
    → commands (arc_value frame.program) (drop frame.at (steps_of (arc_value frame.program))) last state ≡ begun_command frame state
next_left frame needed start end last state is same =
    let text = arc_value frame.program in
    begun text (drop frame.at (steps_of text)) (drop (frame.at + 1) (steps_of text)) needed start end last state is
    ∙ ap (λ (n : Needs). spending (command (command_ended frame) n) (command_ended frame (error_ending past_limit)) state) (sym same)
