-- What a request does to the jobs of a pool, and to the pool of a number: one of a few moves.
use Rattle.std.proofs.Common.{◌≡◌, ◌≤◌, ℕ, Bool, false, codes, List, [], ◌∷◌, ◌++◌, Some, None}
use Rattle.std.specs.Bool.{⊤}
use Rattle.laws_pools.proofs.Views.{numbered}
use Rattle.laws_pools.specs.PoolHappenings.{PoolHappening, Posted, Cancelled, Began, Done, Lost, Got, Suspended, Closed}
use Rattle.laws_sends.proofs.Cuts.{Every}
use Rattle.laws_sends.proofs.Entries.{at}
use Rattle.laws_sends.proofs.Totals.{total}
use Rattle.tt_calls.specs.Outcomes.{error_outcome}
use Rattle.tt_calls.specs.declared.outcome.Outcome.{Outcome}
use Rattle.tt_pools.specs.Jobs.{JobTable, no_jobs, with_begun_job, with_outcome, with_posted_job, without}
use Rattle.tt_pools.specs.Pools.{PoolTable, at_number}
use Rattle.tt_pools.specs.declared.jobs.Begun.{Begun}
use Rattle.tt_pools.specs.declared.jobs.Queued.{Queued}
use Rattle.tt_pools.specs.declared.pool.Pool.{Pool}

-- ---- the jobs of a pool, and whether it is suspended ----

-- the end of a job that thread t had begun
pub data Ends (n t : ℕ) : Outcome → PoolHappening → Type 0 where
  done : (outcome : Outcome) → Ends n t outcome (Done n t outcome)
  lost : Ends n t (error_outcome (codes "target thread died")) (Lost n t)

pub data Move (on : Bool) (jobs : JobTable) : Bool → JobTable → List PoolHappening → Type 0 where
  quiet : Move on jobs on jobs []
  posts : (script : List ℕ) (from : ℕ) (detached : Bool) →
      Move on jobs on (with_posted_job jobs script detached) (Posted jobs.next from detached ∷ [])
  cancels : (n : ℕ) (job : Queued) →
      at n jobs.queued ≡ Some job →
      job.detached ≡ false →
      Move on jobs on (record jobs { queued = without jobs.queued n }) (Cancelled n ∷ [])
  begins : (n t : ℕ) (job : Queued) (later : List (ℕ × Queued)) →
      jobs.queued ≡ (n, job) ∷ later →
      on ≡ false →
      Move on jobs on (with_begun_job jobs t (n, job) later) (Began n t ∷ [])
  ends : (t : ℕ) (begun : Begun) (outcome : Outcome) (one : PoolHappening) →
      at t jobs.begun ≡ Some begun →
      Ends begun.job t outcome one →
      Move on jobs on (with_outcome jobs t begun outcome) (one ∷ [])
  gets : (n t : ℕ) (outcome : Outcome) →
      at n jobs.done ≡ Some outcome →
      Move on jobs on (record jobs { done = without jobs.done n }) (Got n t outcome ∷ [])
  suspends : (now : Bool) → Move on jobs now jobs (Suspended now ∷ [])

-- no job begins
abbrev pub IsNoBegin : PoolHappening → Type 0
IsNoBegin (Began n t) = ⊥
IsNoBegin other = ⊤

pub data Moves : Bool → JobTable → Bool → JobTable → List PoolHappening → Type 0 where
  one : {on now : Bool} {old new : JobTable} {happened : List PoolHappening} → Move on old now new happened → Moves on old now new happened
  both : {on then now : Bool} {old middle new : JobTable} {first second : List PoolHappening} →
      Every IsNoBegin first →
      Every IsNoBegin second →
      Moves on old then middle first →
      Moves then middle now new second →
      Moves on old now new (first ++ second)

-- ---- the pool of a number ----

-- one pool at most has the number, and none that is still to be drawn
pub record Single (p : ℕ) (table : PoolTable) : Type 0 where
  pub one : total (numbered p) table.pools ≤ 1
  pub later : table.next ≤ p → total (numbered p) table.pools ≡ 0

pub data TableMove (p : ℕ) (old new : PoolTable) : List PoolHappening → Type 0 where
  same : at_number new p ≡ at_number old p → old.next ≤ new.next → TableMove p old new []
  made : (pool : Pool) →
      at_number old p ≡ None →
      old.next ≤ p →
      at_number new p ≡ Some pool →
      pool.suspended ≡ false →
      pool.jobs ≡ no_jobs →
      TableMove p old new []
  changed : (pool now : Pool) (happened : List PoolHappening) →
      at_number old p ≡ Some pool →
      at_number new p ≡ Some now →
      Moves pool.suspended pool.jobs now.suspended now.jobs happened →
      TableMove p old new happened
  closes : (pool : Pool) →
      at_number old p ≡ Some pool →
      at_number new p ≡ None →
      new.next ≡ old.next →
      TableMove p old new (Closed ∷ [])

pub record TableStep (p : ℕ) (old new : PoolTable) (happened : List PoolHappening) : Type 0 where
  pub move : TableMove p old new happened
  pub single : Single p new
