-- The plans of Tcl keep to their duties: events, workers of pools, and whole threads.
use Rattle.std.proofs.Common.{◌≡◌, ℕ, Bool, true, false, List, [], ◌∷◌, ◌++◌, Option, Some, None, bytes_eq, ◌==◌, if◌then◌else◌, codes, ap, refl, sym, subst}
use Rattle.laws_serving.proofs.Asking.{controls, globals, holds, nested}
use Rattle.laws_serving.proofs.Commands.{commands_fit}
use Rattle.laws_serving.proofs.Plans.{KeepsEnding, KeepsPlan, KeepsThen, calling, commands_keep, in_variable, loops_keep, needs, ordinarily, quietly, recorded}
use Rattle.laws_serving.proofs.Plans.{same}
use Rattle.laws_serving.proofs.Plans.{set_quiet, spends, turns}
use Rattle.laws_serving.specs.Duties.{Keeps, asks, calls, ends, goes, hands}
use Rattle.laws_serving.specs.Requests.{is_ordinary, takes_events}
use Rattle.laws_serving.specs.Serving.{DutyLaw, duties, handed, post_taken, taken}
use Rattle.tt_calls.specs.declared.event.Event.{Event}
use Rattle.tt_calls.specs.declared.event.Event.TheVariants as event
use Rattle.tt_calls.specs.declared.reply.Reply.{Reply}
use Rattle.tt_calls.specs.declared.reply.Reply.TheVariants as reply
use Rattle.tt_calls.specs.declared.request.Request.{Request}
use Rattle.tt_calls.specs.declared.request.Request.TheVariants as request
use Rattle.tt_calls.specs.declared.start.Start.{Start}
use Rattle.tt_calls.specs.declared.start.Start.TheVariants as start
use Rattle.tt_control.specs.Table.{control_of}
use Rattle.tt_evaluation.specs.Plans.{Ends}
use Rattle.tt_frames.specs.Events as events
use Rattle.tt_frames.specs.Expressions.{came_to, text_needs}
use Rattle.tt_frames.specs.Programs.{steps_of}
use Rattle.tt_frames.specs.Starts as starts
use Rattle.tt_frames.specs.Units.{past_limit}
use Rattle.tt_frames.specs.Vocabulary.{TclPlan, ending_of, same_ending, setting}
use Rattle.tt_frames.specs.Workers as workers
use Rattle.tt_frames.specs.declared.job.BegunJob.{BegunJob}
use Rattle.tt_frames.specs.declared.job.Job.TheVariants as job
use Rattle.tt_frames.specs.declared.job.Until.{Until}
use Rattle.tt_frames.specs.declared.job.Until.TheVariants as until
use Rattle.tt_frames.specs.declared.job.Work.{Work}
use Rattle.tt_frames.specs.declared.job.Work.TheVariants.{Over, Takes}
use Rattle.tt_frames.specs.declared.job.Worker.{Worker}
use Rattle.tt_frames.specs.declared.state.Counts.{Counts}
use Rattle.tt_outcomes.specs.Endings.{error_ending, fine, text_of}
use Rattle.tt_outcomes.specs.Places.{of_script}
use Rattle.tt_outcomes.specs.declared.ending.Ending.{Ending}
use Rattle.tt_outcomes.specs.declared.ending.Ending.TheVariants as ending
use Rattle.tt_outcomes.specs.declared.got.Got.{Got}
use Rattle.tt_outcomes.specs.declared.got.Got.TheVariants as got
use Rattle.tt_outcomes.specs.declared.want.Want.TheVariants as want

-- ---- rounds ----

overs : (until : Until) (ended : Ending) → KeepsThen None (events.over until ended)
overs until.Written ended state = quietly None _ state _ refl (λ it. refl) (λ it st. ends refl)
overs until.Idle ended state = ends refl
overs until.Stopped ended state = ends refl
overs (until.Jobs wait) ended state = ends refl

ahead : (until : Until) → KeepsThen None (events.goal_ahead until)
ahead until state = go state.stopped
  where
    go : (b : Bool) → KeepsPlan None (if b then events.over until (events.stopping until) state else events.next_event until state)
    go true = overs until _ state
    go false = spends _ _ (λ st. goes {job = job.Take until} refl) (overs until (error_ending past_limit)) state

looks : KeepsEnding None events.after_look
looks ended state = go (bytes_eq (text_of ended) (codes "1"))
  where
    go : (b : Bool) → KeepsPlan None (if b then events.over until.Written (fine []) state else events.goal_ahead until.Written state)
    go true = overs until.Written _ state
    go false = ahead until.Written state

rounds : (until : Until) → KeepsThen None (events.round until)
rounds until.Written state = quietly None _ state _ refl (λ it. refl) (λ it st. looks (ending_of it) st)
rounds until.Idle state = ahead until.Idle state
rounds until.Stopped state = ahead until.Stopped state
rounds (until.Jobs wait) state = ahead (until.Jobs wait) state

-- ---- an event is taken ----

without : (until : Until) (answered : Reply) → KeepsThen None (events.without_event until answered)
without (until.Jobs wait) (reply.Lists done pending) state = in_variable wait.variable pending done state
without (until.Jobs wait) answered state = ends refl
without until answered state = overs until _ state

-- the request takes events, and hands nothing over
takes_it : (until : Until) → (takes_events (events.event_request until) ≡ true) × (handed (want.Ask (events.event_request until)) ≡ None)
takes_it until.Written = (refl, refl)
takes_it until.Idle = (refl, refl)
takes_it until.Stopped = (refl, refl)
takes_it (until.Jobs wait) = (refl, refl)

takings : (until : Until) → KeepsThen None (events.taking until)
takings until state = asks (takes_it until).1 on
  where
    on : (it : Got) (st : Counts) → Keeps duties None (taken (want.Ask (events.event_request until)) it) (events.event_then until it st)
    on (got.Reply (reply.Event what)) st =
        let brings : post_taken (events.event_request until) (reply.Event what) ≡ events.post_of what =
        ap (λ b. if b then events.post_of what else None) (takes_it until).0 in
        subst (λ begun. Keeps duties None begun (events.event_then until (got.Reply (reply.Event what)) st)) (sym brings)
        (calls {job = job.Event what} {state = st} refl (λ ended after. goes {job = job.Serve until} refl))
    on (got.Reply answered) st = without until answered st
    on other st = overs until _ st

-- ---- an event is served ----

handed_ends : (it : Got) (state : Counts) → (ended : Ending) × (last : Counts) × (◌≡◌ {A = TclPlan} (events.after_handing it state) (Ends ended last))
handed_ends it state = go (events.says_stop it)
  where
    go : (b : Bool) → (ended : Ending) × (last : Counts)
        × (◌≡◌ {A = TclPlan} (if b then Ends (fine []) (events.counts_at_stop state) else Ends (fine []) state) (Ends ended last))
    go true = (fine [], events.counts_at_stop state, refl)
    go false = (fine [], state, refl)

-- what is handed over is what is owed
delivers : (n : ℕ) (ended : Ending) → KeepsThen (Some n) (events.handing (events.delivery n ended))
delivers n ended state = hands n refl refl handed_ends

tells : (asked : Request) → is_ordinary asked ≡ true → KeepsThen None (events.handing asked)
tells asked is state = ordinarily None asked state events.after_handing is (λ it st. go (events.says_stop it) st)
  where
    go : (b : Bool) (st : Counts) → KeepsPlan None (if b then Ends (fine []) (events.counts_at_stop st) else Ends (fine []) st)
    go true st = ends refl
    go false st = ends refl

scripts_end : (n : ℕ) (answer plain : Bool) → KeepsEnding (events.answered_post n answer) (events.script_ended n answer plain)
scripts_end n true plain (ending.Failed fault) state = recorded (Some n) _ _ (delivers n (ending.Failed fault)) state
scripts_end n false plain (ending.Failed fault) state = recorded None _ _ (tells _ refl) state
scripts_end n true plain ended state = delivers n ended state
scripts_end n false plain ended state = ends refl

reports : KeepsEnding None events.set_reported
reports (ending.Failed fault) state = tells _ refl state
reports ended state = ends refl

after_sets : KeepsEnding None events.after_setting
after_sets ended state = quietly None _ state _ refl (λ it. refl) (λ it st. reports ended st)

sets_keep : (name value : List ℕ) → KeepsThen None (events.sets name value)
sets_keep name value state =
    let quiet = set_quiet name value in
    quietly None (setting name value) state _ quiet.0 quiet.1 (λ it st. after_sets (ending_of it) st)

happen : (what : Event) → KeepsThen (events.post_of what) (events.happens what)
happen (event.Script n script answer plain) state =
    calling (events.answered_post n answer) (job.Global script) state _ refl (λ ended st. scripts_end n answer plain (of_script ended) st)
happen (event.Timer n script) state =
    calling None (job.Global script) state _ refl (λ ended st. scripts_end n false false (of_script ended) st)
happen (event.SetVar name value) state = quietly None _ state _ refl (λ it. refl) (λ it st. sets_keep name value st)
happen (event.Moved channel) state = ends refl
happen event.Stop state = ends refl

-- ---- workers ----

worker_reports : (trace : List ℕ) (next : Work) → KeepsThen None (workers.reporting trace next)
worker_reports trace next state = ordinarily None (request.Report trace false) state _ refl (λ it st. goes {job = job.Work next} refl)

asides_end : (next : Work) → KeepsEnding None (workers.work_after_report next)
asides_end next (ending.Failed fault) state = recorded None _ _ (worker_reports _ next) state
asides_end next ended state = goes {job = job.Work next} refl

asides : (next : Work) → KeepsEnding None (workers.aside next)
asides next ended state = asides_end next (of_script ended) state

after_jobs : (worker : Worker) (trace : Option (List ℕ)) → KeepsThen None (workers.after_job worker trace)
after_jobs worker None state = goes {job = job.Work (Takes worker)} refl
after_jobs worker (Some trace) state = worker_reports trace (Takes worker) state

hands_in : (begun : BegunJob) (ended : Ending) → KeepsThen None (workers.handing_in begun ended)
hands_in begun ended state = ordinarily None _ state _ refl (λ it st. after_jobs begun.worker _ st)

jobs_end : (begun : BegunJob) → KeepsEnding None (workers.end_of_job begun)
jobs_end begun (ending.Failed fault) state = recorded None _ _ (hands_in begun (ending.Failed fault)) state
jobs_end begun ended state = hands_in begun ended state

takes_job : (worker : Worker) (it : Got) → KeepsThen None (workers.job_then worker it)
takes_job worker (got.Reply (reply.Job number script detached)) state =
    calling None (job.Script script) state _ refl (λ ended st. jobs_end (workers.begun_job worker number detached) (of_script ended) st)
takes_job worker other state = calling None (job.Script worker.exit) state _ refl (asides Over)

works : (next : Work) → KeepsThen None (workers.working next)
works (Takes worker) state = ordinarily None _ state _ refl (takes_job worker)
works Over state = ends refl

-- ---- threads ----

report_ordinary : (me : ℕ) (trace : List ℕ) → is_ordinary (starts.report me trace) ≡ true
report_ordinary me trace = go (me == 1)
  where
    go : (b : Bool) → is_ordinary (if b then request.WriteErr (trace ++ 10 ∷ []) else request.Report trace false) ≡ true
    go true = refl
    go false = refl

start_reports : (trace : List ℕ) (ended : Ending) → KeepsThen None (starts.reporting trace ended)
start_reports trace ended state = ordinarily None _ state _ (report_ordinary state.me trace) (λ it st. ends refl)

starts_end : KeepsEnding None starts.error_report
starts_end (ending.Failed fault) state = recorded None _ _ (start_reports _ _) state
starts_end ended state = ends refl

begins : (first : Start) → KeepsThen None (starts.starting first)
begins (start.Script text) state = calling None (job.Script text) state _ refl (λ ended st. starts_end (of_script ended) st)
begins (start.Worker name init exit) state = calling None (job.Script init) state _ refl (asides (Takes (workers.worker_of name exit)))

-- ---- all jobs ----

pub tcl_keeps : DutyLaw
tcl_keeps (job.Start first) state = begins first state
tcl_keeps (job.Script text) state = commands_keep text (steps_of text) [] state
tcl_keeps (job.Expression purpose text) state = needs (came_to purpose) same_ending (λ values st. ends refl) same (text_needs text) state
tcl_keeps (job.Own words) state = controls words (control_of words) (commands_fit words) state
tcl_keeps (job.Nested kind text) state = nested kind text state
tcl_keeps (job.Global text) state = globals text state
tcl_keeps (job.Loop loop) state = loops_keep loop state
tcl_keeps (job.Turn loop) state = turns loop state
tcl_keeps (job.Serve until) state = rounds until state
tcl_keeps (job.Take until) state = takings until state
tcl_keeps (job.Event what) state = happen what state
tcl_keeps (job.Held hold text) state = holds hold text state
tcl_keeps (job.Work next) state = works next state
