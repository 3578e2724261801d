-- Event loops: events are taken and served, one after the other (vwait(n), update(n), thread(n), thread::wait;
-- tpool(n), tpool::wait).
use Rattle.std.specs.Prelude.{ℕ, Bool, true, false, bytes_eq, if◌then◌else◌, List, [], codes, Option, Some, None}
use Rattle.tt_calls.specs.declared.event.Event.{Event}
use Rattle.tt_calls.specs.declared.event.Event.TheVariants as event
use Rattle.tt_calls.specs.declared.reply.Reply.{Reply}
use Rattle.tt_calls.specs.declared.reply.Reply.TheVariants as reply
use Rattle.tt_calls.specs.declared.request.Request.{Request}
use Rattle.tt_calls.specs.declared.request.Request.TheVariants as ask
use Rattle.tt_outcomes.specs.Endings.{error_ending, fine, outcome_of, text_of}
use Rattle.tt_outcomes.specs.Places.{of_script}
use Rattle.tt_outcomes.specs.declared.ending.Ending.{Ending}
use Rattle.tt_outcomes.specs.declared.ending.Ending.TheVariants.{Failed}
use Rattle.tt_outcomes.specs.declared.ending.Failure.{Failure}
use Rattle.tt_evaluation.specs.Plans.{Ends, Asks, Calls, Goes}
use Rattle.tt_outcomes.specs.declared.got.Got.{Got}
use Rattle.tt_outcomes.specs.declared.got.Got.TheVariants as got
use Rattle.tt_outcomes.specs.declared.want.Body.TheVariants as body
use Rattle.tt_outcomes.specs.declared.want.Want.TheVariants.{Ask, Enter, Leave, Seen, Unwatch}
use Rattle.tt_frames.specs.Units.{past_limit, spending}
use Rattle.tt_frames.specs.Vocabulary.{OnEnding, Then, ending_of, same_ending, setting, with_error_info}
use Rattle.tt_frames.specs.Waiting.{jobs_answer, look_of}
use Rattle.tt_frames.specs.declared.job.Job.TheVariants as job
use Rattle.tt_frames.specs.declared.job.Until.{Until}
use Rattle.tt_frames.specs.declared.job.Until.TheVariants as until
use Rattle.tt_frames.specs.declared.state.Counts.{Counts}

-- ---- rounds ----

-- a loop ends so: a variable that it watched is watched no more
abbrev pub over : Until → Ending → Then
over until.Written ending state = Asks Unwatch state (λ got. same_ending ending)
over until.Idle ending state = same_ending ending state
over until.Stopped ending state = same_ending ending state
over (until.Jobs wait) ending state = same_ending ending state

-- how it ends if the thread is to stop
abbrev pub stopping : Until → Ending
stopping until.Written = error_ending (codes "thread is stopping")
stopping until.Idle = fine []
stopping until.Stopped = fine []
stopping (until.Jobs wait) = error_ending (codes "thread is stopping")

-- a unit, and then an event is asked for
abbrev pub next_event : Until → Then
next_event goal = spending (Goes (job.Take goal)) (over goal (error_ending past_limit))

-- the goal is not met: the thread is to stop, or an event comes next
abbrev pub goal_ahead : Until → Then
goal_ahead goal state = if state.stopped then over goal (stopping goal) state else next_event goal state

-- whether the variable was written
abbrev pub after_look : OnEnding
after_look ending state =
    if bytes_eq (text_of ending) (codes "1") then over until.Written (fine []) state else goal_ahead until.Written state

-- a round: first the goal is tested, if there is one to be tested
abbrev pub round : Until → Then
round until.Written state = Asks Seen state (λ got. after_look (ending_of got))
round until.Idle state = goal_ahead until.Idle state
round until.Stopped state = goal_ahead until.Stopped state
round (until.Jobs wait) state = goal_ahead (until.Jobs wait) state

-- ---- an event is taken ----

-- what asks for it: update(n) doesn't wait
abbrev pub event_request : Until → Request
event_request until.Written = ask.Take
event_request until.Idle = ask.TakeReady
event_request until.Stopped = ask.Take
event_request (until.Jobs wait) = look_of wait

-- the post that is served with it: that of a script whose sender gets an answer
abbrev pub answered_post : (n : ℕ) → (answer : Bool) → Option ℕ
answered_post n true = Some n
answered_post n false = None

abbrev pub post_of : Event → Option ℕ
post_of (event.Script n script answer plain) = answered_post n answer
post_of other = None

-- if there was no event the loop ends
abbrev pub without_event : Until → Reply → Then
without_event (until.Jobs wait) reply = jobs_answer wait reply
without_event goal reply = over goal (fine [])

-- an event is served, and then the next round begins
abbrev pub on_event : Until → Reply → Then
on_event goal (reply.Event event) state =
    Calls (post_of event) (job.Event event) state (λ ending. Goes (job.Serve goal))
on_event goal other state = without_event goal other state

abbrev pub event_then : Until → Got → Then
event_then goal (got.Reply reply) = on_event goal reply
event_then goal other = over goal (fine [])

abbrev pub taking : Until → Then
taking goal state = Asks (Ask (event_request goal)) state (event_then goal)

-- ---- an event is served ----

-- the thread is to stop
abbrev pub counts_at_stop : Counts → Counts
counts_at_stop state = record state { stopped = true }

-- whether the reply to what was handed over says so
abbrev pub says_stop : Got → Bool
says_stop (got.Reply (reply.Served stops)) = stops
says_stop other = false

abbrev pub after_handing : Got → Then
after_handing got state = if says_stop got then Ends (fine []) (counts_at_stop state) else Ends (fine []) state

abbrev pub handing : Request → Then
handing request state = Asks (Ask request) state after_handing

-- the outcome of a served script goes to its sender
abbrev pub delivery : (n : ℕ) → Ending → Request
delivery n ending = ask.Deliver n (outcome_of ending)

-- an error goes to its sender, or is reported
abbrev pub error_request : (n : ℕ) → (answer plain : Bool) → Failure → Request
error_request n true plain fault = delivery n (Failed fault)
error_request n false plain fault = ask.Report fault.trace.text plain

-- a result goes to its sender, if the sender waits for it
abbrev pub result_handed : (n : ℕ) → (answer : Bool) → Ending → Then
result_handed n true ending = handing (delivery n ending)
result_handed n false ending = same_ending (fine [])

-- a script is served, and ended so; an error is recorded first
abbrev pub script_ended : (n : ℕ) → (answer plain : Bool) → OnEnding
script_ended n answer plain (Failed fault) =
    with_error_info fault.trace.text (handing (error_request n answer plain fault))
script_ended n answer plain ending = result_handed n answer ending

abbrev pub script_served : (n : ℕ) → (answer plain : Bool) → OnEnding
script_served n answer plain ending = script_ended n answer plain (of_script ending)

-- a global variable was set, and the global level is left: an error is reported by its message
abbrev pub set_reported : OnEnding
set_reported (Failed fault) = handing (ask.Report fault.message false)
set_reported other = same_ending (fine [])

abbrev pub after_setting : OnEnding
after_setting ending state = Asks (Leave body.Global) state (λ got. set_reported ending)

-- a global variable is set
abbrev pub sets : (name value : List ℕ) → Then
sets name value state = Asks (setting name value) state (λ got. after_setting (ending_of got))

-- an event
abbrev pub happens : Event → Then
happens (event.Script n script answer plain) state =
    Calls None (job.Global script) state (script_served n answer plain)
happens (event.Timer n script) state = Calls None (job.Global script) state (script_served n false false)
happens (event.SetVar name value) state = Asks Enter state (λ got. sets name value)
happens (event.Moved chan) state = same_ending (fine []) state
happens event.Stop state = Ends (fine []) (counts_at_stop state)
