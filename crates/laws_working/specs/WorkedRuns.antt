-- What holds of the jobs of pools in every run (tpool(n)).
use Rattle.std.specs.Prelude.{◌≡◌, ℕ, IsTrue, List, Some, IfSome}
use Rattle.std.specs.List.{All, Contains}
use Rattle.laws_pools.specs.PoolHappenings.{Began, happenings}
use Rattle.laws_pools.specs.PoolWorkers.{AsksAsWorker, IsWorked}
use Rattle.laws_shared.specs.Actions.{Moment}
use Rattle.tt_calls.specs.declared.outcome.Outcome.{Outcome}
use Rattle.tt_calls.specs.declared.pool_call.PoolCall.TheVariants.{JobDone}
use Rattle.tt_calls.specs.declared.request.Request.TheVariants as ask
use Rattle.tt_calls.specs.declared.start.Start.TheVariants.{Script}
use Rattle.tt_kept.specs.declared.setup.Setup.{Setup}
use Rattle.tt_machine.specs.Machine.{Machine, Runs, start_machine}
use Rattle.tt_machine.specs.RunActions.{run_actions, run_moments}
use Rattle.tt_pools.specs.Jobs.{at, is_job}
use Rattle.tt_pools.specs.Pools.{pool_of}
use Rattle.tt_shared.specs.Ends.{pool_of_row}
use Rattle.tt_shared.specs.State.{State, start_state}
use Rattle.tt_threads.specs.Rows.{row_of}

-- ---- jobs that are asked for ----

-- jobs are asked for as workers do
abbrev pub AskingLaw : Type 0
AskingLaw =
    (setup : Setup) (input : List ℕ) (machine : Machine) (schedule : List ℕ)
    (ran : Runs (start_machine setup input) schedule machine) →
    All AsksAsWorker (run_moments ran)

-- ---- jobs that are handed in ----

-- a thread has begun that job as a worker of the pool of this id, which may be closed by now
pub record HasBegun (state : State) (t : ℕ) (text : List ℕ) (n : ℕ) : Type 0 where
  pub worker : pool_of_row (row_of state.rows t) ≡ Some text
  pub begun : IfSome (pool_of state.pools text) (λ pool. IsTrue (is_job n (at pool.jobs.begun t)))

-- such a thread hands it in, so that what it came to is recorded
abbrev pub HandsInOwn : Moment → Type 0
HandsInOwn moment =
    (text : List ℕ) (n : ℕ) (outcome : Outcome) →
    moment.action.request ≡ ask.Pool (JobDone text n outcome) →
    HasBegun moment.before moment.action.thread text n

-- no other job is handed in
abbrev pub HandingInLaw : Type 0
HandingInLaw =
    (setup : Setup) (input : List ℕ) (machine : Machine) (schedule : List ℕ)
    (ran : Runs (start_machine setup input) schedule machine) →
    All HandsInOwn (run_moments ran)

-- ---- what becomes of jobs ----

-- each job is begun by a worker of its pool, and is not left behind
abbrev pub WorkedLaw : Type 0
WorkedLaw =
    (setup : Setup) (input : List ℕ) (machine : Machine) (schedule : List ℕ)
    (ran : Runs (start_machine setup input) schedule machine) (p n t : ℕ) →
    Contains (happenings p (start_state (Script setup.script)) (run_actions ran)) (Began n t) →
    IsWorked (happenings p (start_state (Script setup.script)) (run_actions ran)) machine.shared p n t
