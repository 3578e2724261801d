-- The plans of workers ask in turn, and so does every plan of Tcl.
use Rattle.std.proofs.Common.{◌≡◌, ◌==◌, ℕ, Bool, true, false, if◌then◌else◌, List, [], ◌∷◌, ◌++◌, Option, Some, None, refl, subst, sym}
use Rattle.laws_working.proofs.Courses.{Hand, Keeps, MayBegin, Works, asking, asks, calls, goes, hand_after, plain}
use Rattle.laws_working.proofs.Events.{parts_plain}
use Rattle.laws_working.proofs.Plain as plainly
use Rattle.laws_working.proofs.Plain.{is_plain}
use Rattle.tt_calls.specs.declared.pool_call.PoolCall.TheVariants as pool
use Rattle.tt_calls.specs.declared.reply.Reply.TheVariants as reply
use Rattle.tt_calls.specs.declared.request.Request.TheVariants as request
use Rattle.tt_calls.specs.declared.start.Start.TheVariants as start
use Rattle.tt_calls.specs.declared.start.Start.{Start}
use Rattle.tt_frames.specs.Starts as starts
use Rattle.tt_frames.specs.Vocabulary.{Then}
use Rattle.tt_frames.specs.Workers as workers
use Rattle.tt_frames.specs.declared.job.Job.TheVariants as job
use Rattle.tt_frames.specs.declared.job.Work.TheVariants.{Over, Takes}
use Rattle.tt_frames.specs.declared.job.Work.{Work}
use Rattle.tt_frames.specs.declared.job.Worker.{Worker}
use Rattle.tt_frames.specs.declared.state.Counts.{Counts}
use Rattle.tt_outcomes.specs.Endings.{outcome_of}
use Rattle.tt_outcomes.specs.Places.{of_script}
use Rattle.tt_outcomes.specs.declared.ending.Ending.TheVariants as ending
use Rattle.tt_outcomes.specs.declared.ending.Ending.{Ending}
use Rattle.tt_outcomes.specs.declared.got.Got.TheVariants as got
use Rattle.tt_outcomes.specs.declared.got.Got.{Got}
use Rattle.tt_outcomes.specs.declared.want.Want.TheVariants as want
use Rattle.tt_outcomes.specs.declared.want.Want.{Want}
use Rattle.tt_shared.specs.Ends.{pool_of_start}

-- ---- whole threads with no pool ----

report_plain : (me : ℕ) (trace : List ℕ) → is_plain (starts.report me trace) ≡ true
report_plain me trace = go (me == 1)
  where
    go : (b : Bool) → is_plain (if b then request.WriteErr (trace ++ 10 ∷ []) else request.Report trace false) ≡ true
    go true = refl
    go false = refl

starts_end : plainly.PlainEnding starts.error_report
starts_end (ending.Failed fault) state = plainly.asks refl (λ it st. plainly.asks (report_plain _ _) (λ it st. plainly.ends))
starts_end ended state = plainly.ends

module _ (own : Option (List ℕ)) where
  abbrev WorksThen : Hand → Then → Type 0
  WorksThen hand next = (state : Counts) → Works own None hand (next state)

  -- ---- with none in hand ----

  -- what it does next is of its own pool
  abbrev IsOwn : Work → Type 0
  IsOwn next = MayBegin own (job.Work next) None

  reports : (trace : List ℕ) (next : Work) → IsOwn next → WorksThen None (workers.reporting trace next)
  reports trace next is state = asking own None None _ state _ refl (λ it st. goes refl is)

  asides_end : (next : Work) → IsOwn next → (ended : Ending) → WorksThen None (workers.work_after_report next ended)
  asides_end next is (ending.Failed fault) state = asking own None None _ state _ refl (λ it st. reports _ next is st)
  asides_end next is ended state = goes refl is

  asides : (next : Work) → IsOwn next → (ended : Ending) → WorksThen None (workers.aside next ended)
  asides next is ended state = asides_end next is (of_script ended) state

  module _ (worker : Worker) (is : own ≡ Some worker.pool) where
    after_job : (trace : Option (List ℕ)) → WorksThen None (workers.after_job worker trace)
    after_job None state = goes refl (is, refl)
    after_job (Some trace) state = reports trace (Takes worker) (is, refl) state

    -- ---- with a job ----

    module _ (n : ℕ) (detached : Bool) where
      hands_in : (ended : Ending) → WorksThen (Some n) (workers.handing_in (workers.begun_job worker n detached) ended)
      hands_in ended state = asks (is, refl) on
        where
          done : Want
          done = want.Ask (request.Pool (pool.JobDone worker.pool n (outcome_of ended)))

          on : (it : Got) (st : Counts)
              → Works own None (hand_after (Some n) done it) (workers.after_job worker (workers.reported_trace detached ended) st)
          on (got.Reply answered) st = after_job _ st
          on other st = after_job _ st

      job_ends : (ended : Ending) → WorksThen (Some n) (workers.end_of_job (workers.begun_job worker n detached) ended)
      job_ends (ending.Failed fault) state = asking own None (Some n) _ state _ refl (λ it st. hands_in (ending.Failed fault) st)
      job_ends ended state = hands_in ended state

    exits : WorksThen None (λ state. workers.job_then worker (got.Reply reply.JobStop) state)
    exits state = calls refl (asides Over tt)

    takes : WorksThen None (workers.working (Takes worker))
    takes state = asks (is, refl) on
      where
        on : (it : Got) (st : Counts)
            → Works own None (hand_after None (want.Ask (request.Pool (pool.JobTake worker.pool))) it) (workers.job_then worker it st)
        on (got.Reply (reply.Job n script detached)) st = calls refl (λ ended after. job_ends n detached (of_script ended) after)
        on (got.Reply other) st = exits st
        on other st = exits st

  begins : (first : Start) → own ≡ pool_of_start first → WorksThen None (starts.starting first)
  begins (start.Script text) is state = plain refl (plainly.calls refl (λ ended st. starts_end (of_script ended) st))
  begins (start.Worker text init exit) is state = calls refl (asides (Takes (workers.worker_of text exit)) (is, refl))

  -- ---- all jobs ----

  pub tcl_keeps : Keeps own
  tcl_keeps (job.Start first) state hand may =
      subst (λ (h : Hand). Works own h h (starts.starting first state)) (sym may.1) (begins first may.0 state)
  tcl_keeps (job.Work (Takes worker)) state hand may =
      subst (λ (h : Hand). Works own h h (workers.working (Takes worker) state)) (sym may.1) (takes worker may.0 state)
  tcl_keeps (job.Work Over) state hand may = plain refl plainly.ends
  tcl_keeps (job.Script text) state hand may = plain refl (parts_plain (job.Script text) state refl)
  tcl_keeps (job.Expression purpose text) state hand may = plain refl (parts_plain (job.Expression purpose text) state refl)
  tcl_keeps (job.Own words) state hand may = plain refl (parts_plain (job.Own words) state refl)
  tcl_keeps (job.Nested kind text) state hand may = plain refl (parts_plain (job.Nested kind text) state refl)
  tcl_keeps (job.Global text) state hand may = plain refl (parts_plain (job.Global text) state refl)
  tcl_keeps (job.Loop loop) state hand may = plain refl (parts_plain (job.Loop loop) state refl)
  tcl_keeps (job.Turn loop) state hand may = plain refl (parts_plain (job.Turn loop) state refl)
  tcl_keeps (job.Serve until) state hand may = plain refl (parts_plain (job.Serve until) state refl)
  tcl_keeps (job.Take until) state hand may = plain refl (parts_plain (job.Take until) state refl)
  tcl_keeps (job.Event what) state hand may = plain refl (parts_plain (job.Event what) state refl)
  tcl_keeps (job.Held hold text) state hand may = plain refl (parts_plain (job.Held hold text) state refl)
