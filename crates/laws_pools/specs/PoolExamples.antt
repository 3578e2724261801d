-- Runs with pools as examples, and what happens in them (tpool(n)).
use Rattle.std.specs.Prelude.{◌≡◌, ℕ, Bool, true, false, List, [], ◌∷◌, codes, pos}
use Rattle.std.specs.List.{All}
use Rattle.laws_pools.specs.PoolHappenings.{Posted, Cancelled, Began, Done, Lost, Got, Suspended, Closed, happenings}
use Rattle.laws_pools.specs.PoolWorkers.{AsksAsWorker}
use Rattle.laws_shared.specs.Actions.{Action, moments}
use Rattle.laws_shared.specs.Example.{by, main, outcome}
use Rattle.tt_calls.specs.Outcomes.{error_outcome}
use Rattle.tt_calls.specs.declared.pool_call.PoolCall.{PoolCall}
use Rattle.tt_calls.specs.declared.pool_call.PoolCall.TheVariants as call
use Rattle.tt_calls.specs.declared.request.Request.TheVariants as ask

abbrev pub calls : ℕ → PoolCall → Action
calls t asked = by t (ask.Pool asked)

-- main makes a pool, whose workers are the next threads
abbrev pub pool_with : (workers : ℕ) → Action
pool_with workers = calls 1 (call.Create workers workers [] [])

abbrev pub posts : (detached : Bool) → Action
posts detached = calls 1 (call.Post (codes "tpool1") (codes "x") detached)

abbrev pub gets : (job : List ℕ) → Action
gets job = calls 1 (call.Get (codes "tpool1") job)

-- a worker takes a job, or hands in what it came to
abbrev pub takes : (worker : ℕ) → Action
takes worker = calls worker (call.JobTake (codes "tpool1"))

abbrev pub hands_in : (worker n : ℕ) → Action
hands_in worker n = calls worker (call.JobDone (codes "tpool1") n outcome)

-- a worker ends in its job
abbrev pub death : List Action
death =
    pool_with 1
    ∷ posts false
    ∷ takes 2
    ∷ by 2 (ask.End (pos 0))
    ∷ gets (codes "1")
    ∷ []

-- two jobs, one of them detached, and each of them is asked for twice
abbrev pub in_turn : List Action
in_turn =
    pool_with 1
    ∷ posts false
    ∷ posts true
    ∷ takes 2
    ∷ hands_in 2 1
    ∷ takes 2
    ∷ hands_in 2 2
    ∷ gets (codes "2")
    ∷ gets (codes "1")
    ∷ gets (codes "1")
    ∷ gets (codes "2")
    ∷ []

-- two workers, of whose pool a job is cancelled and two are begun before it is closed
abbrev pub closing : List Action
closing =
    pool_with 2
    ∷ posts false
    ∷ calls 1 (call.Suspend (codes "tpool1") true)
    ∷ posts false
    ∷ posts false
    ∷ calls 1 (call.Cancel (codes "tpool1") (codes "2" ∷ codes "4" ∷ []))
    ∷ calls 1 (call.Suspend (codes "tpool1") false)
    ∷ takes 3
    ∷ takes 2
    ∷ calls 1 (call.Cancel (codes "tpool1") (codes "1" ∷ []))
    ∷ hands_in 3 1
    ∷ calls 1 (call.Release (codes "tpool1"))
    ∷ hands_in 2 3
    ∷ gets (codes "1")
    ∷ []

pub record WorkedPools : Type 0 where
  pub asks : All AsksAsWorker (moments main death)
  pub died :
      happenings 1 main death
      ≡ Posted 1 1 false
      ∷ Began 1 2
      ∷ Lost 1 2
      ∷ Got 1 1 (error_outcome (codes "target thread died"))
      ∷ []
  pub in_order :
      happenings 1 main in_turn
      ≡ Posted 1 1 false
      ∷ Posted 2 1 true
      ∷ Began 1 2
      ∷ Done 1 2 outcome
      ∷ Began 2 2
      ∷ Done 2 2 outcome
      ∷ Got 1 1 outcome
      ∷ []
  pub no_other : happenings 2 main in_turn ≡ []
  pub dropped :
      happenings 1 main closing
      ≡ Posted 1 1 false
      ∷ Suspended true
      ∷ Posted 2 1 false
      ∷ Posted 3 1 false
      ∷ Cancelled 2
      ∷ Suspended false
      ∷ Began 1 3
      ∷ Began 3 2
      ∷ Done 1 3 outcome
      ∷ Closed
      ∷ []
