-- What holds of jobs if threads ask for them as workers do (tpool(n)).
use Rattle.std.specs.Prelude.{◌≡◌, ℕ, Bool, false, IsTrue, List, Option, Some, None, IfSome}
use Rattle.std.specs.List.{All, Contains}
use Rattle.laws_pools.specs.PoolHappenings.{PoolHappening, Began, Done, Lost, Closed, happenings, is_id}
use Rattle.laws_shared.specs.Actions.{Action, Acts, Moment, moments}
use Rattle.tt_calls.specs.declared.outcome.Outcome.{Outcome}
use Rattle.tt_calls.specs.declared.pool_call.PoolCall.TheVariants.{JobTake}
use Rattle.tt_calls.specs.declared.request.Request.TheVariants as ask
use Rattle.tt_calls.specs.declared.start.Start.{Start}
use Rattle.tt_pools.specs.Jobs.{at}
use Rattle.tt_pools.specs.Pools.{at_number, pool_of}
use Rattle.tt_pools.specs.declared.jobs.Begun.{Begun}
use Rattle.tt_pools.specs.declared.pool.Pool.{Pool}
use Rattle.tt_shared.specs.Ends.{pool_of_row}
use Rattle.tt_shared.specs.State.{State, start_state}
use Rattle.tt_threads.specs.Rows.{is_living, row_of}

-- ---- how workers ask ----

-- a thread was made as a worker of the pool of this id, and has no job of it that it has not handed in
pub record IsFreeWorker (state : State) (t : ℕ) (text : List ℕ) : Type 0 where
  pub worker : pool_of_row (row_of state.rows t) ≡ Some text
  pub free : IfSome (pool_of state.pools text) (λ pool. at pool.jobs.begun t ≡ None)

-- such a thread asks for a job
abbrev pub AsksAsWorker : Moment → Type 0
AsksAsWorker moment =
    (text : List ℕ) →
    moment.action.request ≡ ask.Pool (JobTake text) →
    IsFreeWorker moment.before moment.action.thread text

-- ---- whose a job is ----

-- thread t was made as a worker of pool p
abbrev pub is_of_pool : (p : ℕ) → Option (List ℕ) → Bool
is_of_pool p None = false
is_of_pool p (Some text) = is_id p text

abbrev pub IsWorker : State → (p t : ℕ) → Type 0
IsWorker state p t = IsTrue (is_of_pool p (pool_of_row (row_of state.rows t)))

-- thread t lives, and has begun job n of pool p
pub record HasJob (state : State) (p n t : ℕ) : Type 0 where
  pub lives : IsTrue (is_living state.rows t)
  pub pool : Pool
  pub is_open : at_number state.pools p ≡ Some pool
  pub begun : Begun
  pub there : at pool.jobs.begun t ≡ Some begun
  pub job : begun.job ≡ n

-- what became of a job: it has ended, its pool was closed, or its worker has it
pub data HasCome (happened : List PoolHappening) (state : State) (p n t : ℕ) : Type 0 where
  done : (outcome : Outcome) → Contains happened (Done n t outcome) → HasCome happened state p n t
  lost : Contains happened (Lost n t) → HasCome happened state p n t
  closed : Contains happened Closed → HasCome happened state p n t
  goes_on : HasJob state p n t → HasCome happened state p n t

-- ---- the law ----

-- a job is begun by a worker of its pool, and is not left behind
pub record IsWorked (happened : List PoolHappening) (state : State) (p n t : ℕ) : Type 0 where
  pub worker : IsWorker state p t
  pub has_come : HasCome happened state p n t

-- if jobs are asked for as workers do
abbrev pub WorkerLaw : Type 0
WorkerLaw =
    (main : Start) (actions : List Action) (state : State) (p n t : ℕ) →
    Acts (start_state main) actions state →
    All AsksAsWorker (moments (start_state main) actions) →
    Contains (happenings p (start_state main) actions) (Began n t) →
    IsWorked (happenings p (start_state main) actions) state p n t
