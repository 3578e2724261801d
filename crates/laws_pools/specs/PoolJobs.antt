-- What holds of the jobs of every pool, whatever threads ask (tpool(n)).
use Rattle.std.specs.Prelude.{◌≡◌, ◌≤◌, ◌<◌, ℕ, ◌==◌, Bool, false, IsFalse, List, ◌∷◌, ◌++◌, codes, count_by, ⊤}
use Rattle.std.specs.List.{Contains, fold}
use Rattle.laws_pools.specs.PoolHappenings.{PoolHappening, Posted, Cancelled, Began, Done, Lost, Got, Suspended, Closed}
use Rattle.laws_pools.specs.PoolHappenings.{happenings}
use Rattle.laws_shared.specs.Actions.{Action, Acts}
use Rattle.tt_calls.specs.Outcomes.{error_outcome}
use Rattle.tt_calls.specs.declared.outcome.Outcome.{Outcome}
use Rattle.tt_calls.specs.declared.start.Start.{Start}
use Rattle.tt_shared.specs.State.{State, start_state}

-- ---- how often ----

-- a job is posted; it leaves the queue, cancelled or begun; it ends, done or lost; what it came to is got
abbrev pub posts : ℕ → PoolHappening → Bool
posts n (Posted m from detached) = m == n
posts n other = false

abbrev pub leaves : ℕ → PoolHappening → Bool
leaves n (Cancelled m) = m == n
leaves n (Began m t) = m == n
leaves n other = false

abbrev pub ends : ℕ → PoolHappening → Bool
ends n (Done m t outcome) = m == n
ends n (Lost m t) = m == n
ends n other = false

abbrev pub gets : ℕ → PoolHappening → Bool
gets n (Got m t outcome) = m == n
gets n other = false

-- each of them at most once: so a job that was cancelled never begins
pub record AreOnce (happened : List PoolHappening) : Type 0 where
  pub posted_once : (n : ℕ) → count_by (posts n) happened ≤ 1
  pub leaves_once : (n : ℕ) → count_by (leaves n) happened ≤ 1
  pub ends_once : (n : ℕ) → count_by (ends n) happened ≤ 1
  pub got_once : (n : ℕ) → count_by (gets n) happened ≤ 1

-- ---- after what ----

-- job n was posted, detached or not
pub record IsPosted (before : List PoolHappening) (n : ℕ) (detached : Bool) : Type 0 where
  pub from : ℕ
  pub posted : Contains before (Posted n from detached)

-- jobs have numbers in the order in which they are posted
abbrev pub IsNext : (before : List PoolHappening) → ℕ → Type 0
IsNext before n = (k : ℕ) (detached : Bool) → IsPosted before k detached → k < n

-- job n has left the queue
pub data HasLeft (before : List PoolHappening) (n : ℕ) : Type 0 where
  cancelled : Contains before (Cancelled n) → HasLeft before n
  began : (t : ℕ) → Contains before (Began n t) → HasLeft before n

-- whether the pool is suspended
abbrev pub suspended_after : Bool → PoolHappening → Bool
suspended_after suspended (Suspended on) = on
suspended_after suspended other = suspended

abbrev pub is_suspended : (before : List PoolHappening) → Bool
is_suspended before = fold suspended_after false before

-- a job begins that was posted, and those that were posted before it have left the queue; the pool is not suspended
pub record BeginsInTurn (before : List PoolHappening) (n : ℕ) : Type 0 where
  pub detached : Bool
  pub posted : IsPosted before n detached
  pub in_order : (k : ℕ) (detached : Bool) → IsPosted before k detached → k < n → HasLeft before k
  pub goes_on : IsFalse (is_suspended before)

-- what a job came to: what the thread that had begun it handed in, or that this thread has ended
pub data CameTo (before : List PoolHappening) (n : ℕ) : Outcome → Type 0 where
  done : (t : ℕ) (outcome : Outcome) → Contains before (Done n t outcome) → CameTo before n outcome
  lost : (t : ℕ) → Contains before (Lost n t) → CameTo before n (error_outcome (codes "target thread died"))

-- that is answered of a job that is not detached
pub record AnswersGet (before : List PoolHappening) (n : ℕ) (outcome : Outcome) : Type 0 where
  pub posted : IsPosted before n false
  pub is : CameTo before n outcome

-- what a happening comes after; a detached job is not cancelled, and none ends but where it began
abbrev pub ComesAfter : (before : List PoolHappening) → PoolHappening → Type 0
ComesAfter before (Posted n from detached) = IsNext before n
ComesAfter before (Cancelled n) = IsPosted before n false
ComesAfter before (Began n t) = BeginsInTurn before n
ComesAfter before (Done n t outcome) = Contains before (Began n t)
ComesAfter before (Lost n t) = Contains before (Began n t)
ComesAfter before (Got n t outcome) = AnswersGet before n outcome
ComesAfter before other = ⊤

-- nothing happens in a pool that was closed
abbrev pub IsOpen : (before : List PoolHappening) → Type 0
IsOpen before = ¬ (Contains before Closed)

-- ---- the law ----

pub record JobsAreKept (happened : List PoolHappening) : Type 0 where
  pub once : AreOnce happened
  pub after :
      (before rest : List PoolHappening) (one : PoolHappening) →
      happened ≡ before ++ one ∷ rest →
      ComesAfter before one
  pub before_close :
      (before rest : List PoolHappening) (one : PoolHappening) →
      happened ≡ before ++ one ∷ rest →
      IsOpen before

-- of every pool and every list of actions from the start
abbrev pub JobLaw : Type 0
JobLaw =
    (main : Start) (actions : List Action) (state : State) (p : ℕ) →
    Acts (start_state main) actions state →
    JobsAreKept (happenings p (start_state main) actions)
