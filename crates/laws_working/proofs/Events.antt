-- Events are plain, and so is every job that a plan may call.
use Rattle.std.proofs.Common.{◌≡◌, ℕ, Bool, true, false, [], bytes_eq, if◌then◌else◌, codes, refl}
use Rattle.laws_serving.proofs.Commands.{commands_fit}
use Rattle.laws_working.proofs.Asking.{controls, globals, holds, nested}
use Rattle.laws_working.proofs.Plain.{Plain, PlainEnding, PlainThen, asks, calls, ends, goes, is_part, is_plain}
use Rattle.laws_working.proofs.Plans.{commands_plain, in_variable, loops_plain, needs, recorded, same, sets_plainly, spends, turns}
use Rattle.tt_calls.specs.declared.event.Event.TheVariants as event
use Rattle.tt_calls.specs.declared.event.Event.{Event}
use Rattle.tt_calls.specs.declared.reply.Reply.TheVariants as reply
use Rattle.tt_calls.specs.declared.reply.Reply.{Reply}
use Rattle.tt_calls.specs.declared.request.Request.{Request}
use Rattle.tt_control.specs.Table.{control_of}
use Rattle.tt_evaluation.specs.Plans.{Ends}
use Rattle.tt_frames.specs.Events as events
use Rattle.tt_frames.specs.Expressions.{came_to, text_needs}
use Rattle.tt_frames.specs.Programs.{steps_of}
use Rattle.tt_frames.specs.Tcl.{plan}
use Rattle.tt_frames.specs.Units.{past_limit}
use Rattle.tt_frames.specs.Vocabulary.{ending_of, same_ending}
use Rattle.tt_frames.specs.declared.job.Job.TheVariants as job
use Rattle.tt_frames.specs.declared.job.Job.{Job}
use Rattle.tt_frames.specs.declared.job.Until.TheVariants as until
use Rattle.tt_frames.specs.declared.job.Until.{Until}
use Rattle.tt_frames.specs.declared.state.Counts.{Counts}
use Rattle.tt_outcomes.specs.Endings.{error_ending, fine, text_of}
use Rattle.tt_outcomes.specs.Places.{of_script}
use Rattle.tt_outcomes.specs.declared.ending.Ending.TheVariants as ending
use Rattle.tt_outcomes.specs.declared.ending.Ending.{Ending}
use Rattle.tt_outcomes.specs.declared.got.Got.TheVariants as got
use Rattle.tt_outcomes.specs.declared.got.Got.{Got}

-- ---- rounds ----

overs : (until : Until) (ended : Ending) → PlainThen (events.over until ended)
overs until.Written ended state = asks refl (λ it st. ends)
overs until.Idle ended state = ends
overs until.Stopped ended state = ends
overs (until.Jobs wait) ended state = ends

ahead : (until : Until) → PlainThen (events.goal_ahead until)
ahead until state = go state.stopped
  where
    go : (b : Bool) → Plain (if b then events.over until (events.stopping until) state else events.next_event until state)
    go true = overs until _ state
    go false = spends _ _ (λ st. goes refl) (overs until (error_ending past_limit)) state

looks : PlainEnding events.after_look
looks ended state = go (bytes_eq (text_of ended) (codes "1"))
  where
    go : (b : Bool) → Plain (if b then events.over until.Written (fine []) state else events.goal_ahead until.Written state)
    go true = overs until.Written _ state
    go false = ahead until.Written state

rounds : (until : Until) → PlainThen (events.round until)
rounds until.Written state = asks refl (λ it st. looks (ending_of it) st)
rounds until.Idle state = ahead until.Idle state
rounds until.Stopped state = ahead until.Stopped state
rounds (until.Jobs wait) state = ahead (until.Jobs wait) state

-- ---- an event is taken ----

without : (until : Until) (answered : Reply) → PlainThen (events.without_event until answered)
without (until.Jobs wait) (reply.Lists done pending) state = in_variable wait.variable pending done state
without (until.Jobs wait) answered state = ends
without until answered state = overs until _ state

takes_plainly : (until : Until) → is_plain (events.event_request until) ≡ true
takes_plainly until.Written = refl
takes_plainly until.Idle = refl
takes_plainly until.Stopped = refl
takes_plainly (until.Jobs wait) = refl

takings : (until : Until) → PlainThen (events.taking until)
takings until state = asks (takes_plainly until) on
  where
    on : (it : Got) (st : Counts) → Plain (events.event_then until it st)
    on (got.Reply (reply.Event what)) st = calls refl (λ ended after. goes refl)
    on (got.Reply answered) st = without until answered st
    on other st = overs until _ st

-- ---- an event is served ----

hands_over : (asked : Request) → is_plain asked ≡ true → PlainThen (events.handing asked)
hands_over asked is state = asks is (λ it st. go (events.says_stop it) st)
  where
    go : (b : Bool) (st : Counts) → Plain (if b then Ends (fine []) (events.counts_at_stop st) else Ends (fine []) st)
    go true st = ends
    go false st = ends

scripts_end : (n : ℕ) (answer plain : Bool) → PlainEnding (events.script_ended n answer plain)
scripts_end n true plain (ending.Failed fault) state = recorded _ _ (hands_over _ refl) state
scripts_end n false plain (ending.Failed fault) state = recorded _ _ (hands_over _ refl) state
scripts_end n true plain ended state = hands_over _ refl state
scripts_end n false plain ended state = ends

reports : PlainEnding events.set_reported
reports (ending.Failed fault) state = hands_over _ refl state
reports ended state = ends

after_sets : PlainEnding events.after_setting
after_sets ended state = asks refl (λ it st. reports ended st)

happen : (what : Event) → PlainThen (events.happens what)
happen (event.Script n script answer plain) state = calls refl (λ ended st. scripts_end n answer plain (of_script ended) st)
happen (event.Timer n script) state = calls refl (λ ended st. scripts_end n false false (of_script ended) st)
happen (event.SetVar name value) state = asks refl (λ it st. asks (sets_plainly name value) (λ it st. after_sets (ending_of it) st))
happen (event.Moved channel) state = ends
happen event.Stop state = ends

-- ---- all jobs but those of whole threads and of workers ----

pub parts_plain : (called : Job) (state : Counts) → is_part called ≡ true → Plain (plan called state)
parts_plain (job.Start first) state is = absurd (cc is)
parts_plain (job.Script text) state is = commands_plain text (steps_of text) [] state
parts_plain (job.Expression purpose text) state is = needs (came_to purpose) same_ending (λ values st. ends) same (text_needs text) state
parts_plain (job.Own words) state is = controls words (control_of words) (commands_fit words) state
parts_plain (job.Nested kind text) state is = nested kind text state
parts_plain (job.Global text) state is = globals text state
parts_plain (job.Loop loop) state is = loops_plain loop state
parts_plain (job.Turn loop) state is = turns loop state
parts_plain (job.Serve until) state is = rounds until state
parts_plain (job.Take until) state is = takings until state
parts_plain (job.Event what) state is = happen what state
parts_plain (job.Held hold text) state is = holds hold text state
parts_plain (job.Work next) state is = absurd (cc is)
