-- The plans of Tcl keep to their bounds: events, workers of pools, and whole threads.
use Rattle.std.proofs.Common.{◌<◌, ℕ, Bool, true, false, List, [], Option, Some, None, bytes_eq, if◌then◌else◌, codes, arith}
use Rattle.laws_pauses.proofs.Bounds.{rank}
use Rattle.laws_pauses.proofs.Asking.{controls, globals, holds, nested}
use Rattle.laws_pauses.proofs.Plans.{LightAt, LightEnding, LightThen, asking_for, calling, commands_light, going, in_variable, loops_light, needs, over}
use Rattle.laws_pauses.proofs.Plans.{recorded, spends}
use Rattle.laws_pauses.proofs.Plans.{turns, wanting}
use Rattle.tt_calls.specs.declared.event.Event.{Event}
use Rattle.tt_calls.specs.declared.event.Event.TheVariants as event
use Rattle.tt_calls.specs.declared.reply.Reply.{Reply}
use Rattle.tt_calls.specs.declared.reply.Reply.TheVariants as reply
use Rattle.tt_calls.specs.declared.request.Request.{Request}
use Rattle.tt_calls.specs.declared.start.Start.{Start}
use Rattle.tt_calls.specs.declared.start.Start.TheVariants as start
use Rattle.tt_control.specs.Table.{control_of}
use Rattle.tt_evaluation.specs.Plans.{Ends}
use Rattle.tt_frames.specs.Events as events
use Rattle.tt_frames.specs.Expressions.{came_to, text_needs}
use Rattle.tt_frames.specs.Programs.{steps_of}
use Rattle.tt_frames.specs.Starts as starts
use Rattle.tt_frames.specs.Tcl.{plan}
use Rattle.tt_frames.specs.Units.{past_limit}
use Rattle.tt_frames.specs.Vocabulary.{ending_of, same_ending, setting}
use Rattle.tt_frames.specs.Workers as workers
use Rattle.tt_frames.specs.declared.job.BegunJob.{BegunJob}
use Rattle.tt_frames.specs.declared.job.Job.{Job}
use Rattle.tt_frames.specs.declared.job.Job.TheVariants as job
use Rattle.tt_frames.specs.declared.job.Until.{Until}
use Rattle.tt_frames.specs.declared.job.Until.TheVariants as until
use Rattle.tt_frames.specs.declared.job.Work.{Work}
use Rattle.tt_frames.specs.declared.job.Work.TheVariants.{Over, Takes}
use Rattle.tt_frames.specs.declared.job.Worker.{Worker}
use Rattle.tt_outcomes.specs.Endings.{error_ending, fine, text_of}
use Rattle.tt_outcomes.specs.Places.{of_script}
use Rattle.tt_outcomes.specs.declared.ending.Ending.{Ending}
use Rattle.tt_outcomes.specs.declared.ending.Ending.TheVariants as ending
use Rattle.tt_outcomes.specs.declared.got.Got.{Got}
use Rattle.tt_outcomes.specs.declared.got.Got.TheVariants as got

-- ---- rounds ----

overs : (k : ℕ) (until : Until) (ended : Ending) → LightThen k (events.over until ended)
overs k until.Written ended state = wanting k _ state _ (λ it. over k ended state)
overs k until.Idle ended state = over k ended state
overs k until.Stopped ended state = over k ended state
overs k (until.Jobs wait) ended state = over k ended state

ahead : (until : Until) → LightThen 0 (events.goal_ahead until)
ahead until state = go state.stopped
  where
    go : (b : Bool) → LightAt 0 state (if b then events.over until (events.stopping until) state else events.next_event until state)
    go true = overs 0 until _ state
    go false = spends _ _ (λ st. going 8 (job.Take until) st (omega arith)) (overs 0 until (error_ending past_limit)) state

looks : LightEnding 0 events.after_look
looks ended state = go (bytes_eq (text_of ended) (codes "1"))
  where
    go : (b : Bool) → LightAt 0 state (if b then events.over until.Written (fine []) state else events.goal_ahead until.Written state)
    go true = overs 0 until.Written _ state
    go false = ahead until.Written state

rounds : (until : Until) → LightThen 0 (events.round until)
rounds until.Written state = wanting 0 _ state _ (λ it. looks (ending_of it) state)
rounds until.Idle state = ahead until.Idle state
rounds until.Stopped state = ahead until.Stopped state
rounds (until.Jobs wait) state = ahead (until.Jobs wait) state

-- ---- an event is taken ----

without : (until : Until) (answered : Reply) → LightThen 8 (events.without_event until answered)
without (until.Jobs wait) (reply.Lists done pending) state = in_variable 8 wait.variable pending done state
without (until.Jobs wait) answered state = over 8 _ state
without until answered state = overs 8 until _ state

takings : (until : Until) → LightThen 0 (events.taking until)
takings until state = asking_for 0 (events.event_request until) state _ on
  where
    on : (it : Got) → LightAt 8 state (events.event_then until it state)
    on (got.Reply (reply.Event what)) =
        calling 8 (events.post_of what) (job.Event what) state _ (omega arith) (omega arith) (λ ended after. going 8 (job.Serve until) after (omega arith))
    on (got.Reply answered) = without until answered state
    on other = overs 8 until _ state

-- ---- an event is served ----

tells : (k : ℕ) (asked : Request) → LightThen k (events.handing asked)
tells k asked state = asking_for k asked state events.after_handing (λ it. go (events.says_stop it))
  where
    go : (b : Bool) → LightAt 8 state (if b then Ends (fine []) (events.counts_at_stop state) else Ends (fine []) state)
    go true = over 8 (fine []) (events.counts_at_stop state)
    go false = over 8 (fine []) state

hands : (n : ℕ) (answer : Bool) (ended : Ending) → LightThen 3 (events.result_handed n answer ended)
hands n true ended state = tells 3 _ state
hands n false ended state = over 3 _ state

scripts_end : (n : ℕ) (answer plain : Bool) → LightEnding 3 (events.script_ended n answer plain)
scripts_end n answer plain (ending.Failed fault) state = recorded 3 _ _ (tells 3 _) state
scripts_end n answer plain ended state = hands n answer ended state

reports : LightEnding 3 events.set_reported
reports (ending.Failed fault) state = tells 3 _ state
reports ended state = over 3 _ state

after_sets : LightEnding 3 events.after_setting
after_sets ended state = wanting 3 _ state _ (λ it. reports ended state)

sets_light : (name value : List ℕ) → LightThen 3 (events.sets name value)
sets_light name value state = wanting 3 (setting name value) state _ (λ it. after_sets (ending_of it) state)

happen : (what : Event) → LightThen 3 (events.happens what)
happen (event.Script n script answer plain) state =
    calling 3 None (job.Global script) state _ (omega arith) (omega arith) (λ ended st. scripts_end n answer plain (of_script ended) st)
happen (event.Timer n script) state =
    calling 3 None (job.Global script) state _ (omega arith) (omega arith) (λ ended st. scripts_end n false false (of_script ended) st)
happen (event.SetVar name value) state = wanting 3 _ state _ (λ it. sets_light name value state)
happen (event.Moved channel) state = over 3 _ state
happen event.Stop state = over 3 (fine []) (events.counts_at_stop state)

-- ---- workers ----

worker_reports : (k : ℕ) (trace : List ℕ) (next : Work) → LightThen k (workers.reporting trace next)
worker_reports k trace next state = asking_for k _ state _ (λ it. going 8 (job.Work next) state (omega arith))

asides_end : (k : ℕ) → 0 < k → (next : Work) → LightEnding k (workers.work_after_report next)
asides_end k some next (ending.Failed fault) state = recorded k _ _ (worker_reports k _ next) state
asides_end k some next ended state = going k (job.Work next) state some

asides : (k : ℕ) → 0 < k → (next : Work) → LightEnding k (workers.aside next)
asides k some next ended state = asides_end k some next (of_script ended) state

after_jobs : (worker : Worker) (trace : Option (List ℕ)) → LightThen 8 (workers.after_job worker trace)
after_jobs worker None state = going 8 (job.Work (Takes worker)) state (omega arith)
after_jobs worker (Some trace) state = worker_reports 8 trace (Takes worker) state

hands_in : (begun : BegunJob) (ended : Ending) → LightThen 8 (workers.handing_in begun ended)
hands_in begun ended state = asking_for 8 _ state _ (λ it. after_jobs begun.worker _ state)

jobs_end : (begun : BegunJob) → LightEnding 8 (workers.end_of_job begun)
jobs_end begun (ending.Failed fault) state = recorded 8 _ _ (hands_in begun (ending.Failed fault)) state
jobs_end begun ended state = hands_in begun ended state

takes_job : (worker : Worker) (it : Got) → LightThen 8 (workers.job_then worker it)
takes_job worker (got.Reply (reply.Job number script detached)) state =
    calling 8 None (job.Script script) state _ (omega arith) (omega arith)
    (λ ended st. jobs_end (workers.begun_job worker number detached) (of_script ended) st)
takes_job worker other state = calling 8 None (job.Script worker.exit) state _ (omega arith) (omega arith) (asides 8 (omega arith) Over)

works : (next : Work) → LightThen 0 (workers.working next)
works (Takes worker) state = asking_for 0 _ state _ (λ it. takes_job worker it state)
works Over state = over 0 _ state

-- ---- threads ----

start_reports : (trace : List ℕ) (ended : Ending) → LightThen 1 (starts.reporting trace ended)
start_reports trace ended state = asking_for 1 _ state _ (λ it. over 8 ended state)

starts_end : LightEnding 1 starts.error_report
starts_end (ending.Failed fault) state = recorded 1 _ _ (start_reports _ _) state
starts_end ended state = over 1 ended state

begins : (first : Start) → LightThen 1 (starts.starting first)
begins (start.Script text) state = calling 1 None (job.Script text) state _ (omega arith) (omega arith) (λ ended st. starts_end (of_script ended) st)
begins (start.Worker name init exit) state =
    calling 1 None (job.Script init) state _ (omega arith) (omega arith) (asides 1 (omega arith) (Takes (workers.worker_of name exit)))

-- ---- all jobs ----

pub tcl_bounded : (first : Job) → LightThen (rank first) (plan first)
tcl_bounded (job.Start first) state = begins first state
tcl_bounded (job.Script text) state = commands_light text (steps_of text) [] state
tcl_bounded (job.Expression purpose text) state =
    needs 1 (came_to purpose) same_ending (omega arith) (omega arith) (λ values st. over 1 _ st) (over 1) (text_needs text) state
tcl_bounded (job.Own words) state = controls words (control_of words) state
tcl_bounded (job.Nested kind text) state = nested kind text state
tcl_bounded (job.Global text) state = globals text state
tcl_bounded (job.Loop loop) state = loops_light loop state
tcl_bounded (job.Turn loop) state = turns loop state
tcl_bounded (job.Serve until) state = rounds until state
tcl_bounded (job.Take until) state = takings until state
tcl_bounded (job.Event what) state = happen what state
tcl_bounded (job.Held hold text) state = holds hold text state
tcl_bounded (job.Work next) state = works next state
