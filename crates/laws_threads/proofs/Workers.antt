-- A call on pools makes 900 workers at most.
use Rattle.std.proofs.Common.{◌≡◌, ◌≤◌, ◌==◌, ◌&&◌, ℕ, Bool, true, false, nat_le, nat_lt, if◌then◌else◌, List, Option, Some, None, negsuc, pos, refl, arith}
use Rattle.std.proofs.lemmas.Bool.{leb-true}
use Rattle.tt_calls.specs.declared.outcome.Outcome.{Outcome}
use Rattle.tt_calls.specs.declared.pool_call.PoolCall.{PoolCall}
use Rattle.tt_calls.specs.declared.pool_call.PoolCall.TheVariants as ask
use Rattle.tt_pools.specs.Calls as pools
use Rattle.tt_pools.specs.Jobs.{at, is_job, outcome_of, with_posted_job}
use Rattle.tt_pools.specs.Pools.{PoolTable, is_allowed, most_workers, pool_of}
use Rattle.tt_pools.specs.declared.pool.Pool.{Pool}

abbrev Few : pools.Answered → Type 0
Few answered = answered.gives.start ≤ most_workers

abbrev FewDone : pools.Done → Type 0
FewDone done = done.gives.start ≤ most_workers

none : 0 ≤ most_workers
none = omega arith

one : 1 ≤ most_workers
one = omega arith

by_if : (b : Bool) (first second : pools.Answered) → Few first → Few second → Few (if b then first else second)
by_if true first second here there = here
by_if false first second here there = there

done_if : (b : Bool) (first second : pools.Done) → FewDone first → FewDone second → FewDone (if b then first else second)
done_if true first second here there = here
done_if false first second here there = there

in_pool : (change : Pool → pools.Done) (table : PoolTable) (text : List ℕ) → ((pool : Pool) → FewDone (change pool))
    → Few (pools.in_pool change table text)
in_pool change table text each = go (pool_of table text) refl
  where
    go : (found : Option Pool) → pool_of table text ≡ found → Few (pools.in_pool change table text)
    go None is = rw (is, pools.in_pool) none
    go (Some pool) is = rw (is, pools.in_pool) (each pool)

takes_outcome : (job : List ℕ) (pool : Pool) → FewDone (pools.takes_outcome job pool)
takes_outcome job pool = go (outcome_of pool.jobs job) refl
  where
    go : (found : Option Outcome) → outcome_of pool.jobs job ≡ found → FewDone (pools.takes_outcome job pool)
    go None is = rw (is, pools.takes_outcome) none
    go (Some outcome) is = rw (is, pools.takes_outcome) none

posts : (text script : List ℕ) (detached : Bool) (room : ℕ) (pool : Pool) → FewDone (pools.posts text script detached room pool)
posts text script detached room pool =
    done_if (pool.workers == 0 && room == 0) _ _ none
    (done_if (pools.wants_worker (pools.with_jobs pool (with_posted_job pool.jobs script detached)) room) _ _ one none)

looks : (table : PoolTable) (text : List ℕ) (listed : List (List ℕ)) → Few (pools.looks table text listed)
looks table text listed = go (pool_of table text) refl
  where
    go : (found : Option Pool) → pool_of table text ≡ found → Few (pools.looks table text listed)
    go None is = rw (is, pools.looks) none
    go (Some pool) is = rw (is, pools.looks) none

takes_job : (table : PoolTable) (t : ℕ) (marked : Bool) (text : List ℕ) (found : Option Pool) → Few (pools.takes_job table t marked text found)
takes_job table t marked text None = none
takes_job table t marked text (Some pool) = by_if marked _ _ none none

is_over : (table : PoolTable) (t : ℕ) (text : List ℕ) (n : ℕ) (outcome : Outcome) (found : Option Pool) → Few (pools.is_over table t text n outcome found)
is_over table t text n outcome None = none
is_over table t text n outcome (Some pool) = done_if (is_job n (at pool.jobs.begun t)) _ _ none none

-- the least workers of a pool that may be are no more than the most of any
allowed : (least most : ℕ) → is_allowed least most ≡ true → least ≤ most_workers
allowed least most is = go (nat_le least most) (nat_lt 0 most) (nat_le most most_workers) refl refl is
  where
    go : (a b c : Bool) → nat_le least most ≡ a → nat_le most most_workers ≡ c → a && (b && c) ≡ true → least ≤ most_workers
    go true true true low high is = omega (arith, leb-true least most low, leb-true most most_workers high)
    go true true false low high is = absurd (cc is)
    go true false c low high is = absurd (cc is)
    go false b c low high is = absurd (cc is)

creates : (table : PoolTable) (least most : ℕ) (init exit : List ℕ) (room : ℕ) → Few (pools.creates table least most init exit room)
creates table least most init exit room = go (is_allowed least most) refl
  where
    go : (b : Bool) → is_allowed least most ≡ b → Few (pools.creates table least most init exit room)
    go true is = rw is (by_if (nat_lt room least) _ _ none (allowed least most is))
    go false is = rw is none

acts : (table : PoolTable) (t room : ℕ) (marked : Bool) (call : PoolCall) → Few (pools.act table t room marked call)
acts table t room marked (ask.Create least most init exit) = creates table least most init exit room
acts table t room marked ask.Names = none
acts table t room marked (ask.Post text script detached) = in_pool _ table text (posts text script detached room)
acts table t room marked (ask.Look text listed) = looks table text listed
acts table t room marked (ask.Cancel text listed) = in_pool _ table text (λ pool. none)
acts table t room marked (ask.Get text job) = in_pool _ table text (takes_outcome job)
acts table t room marked (ask.Preserve text) = in_pool (pools.counts (pos 1)) table text (λ pool. none)
acts table t room marked (ask.Release text) = in_pool (pools.counts (negsuc 0)) table text (λ pool. none)
acts table t room marked (ask.Suspend text on) = in_pool _ table text (λ pool. none)
acts table t room marked (ask.JobTake text) = takes_job table t marked text (pool_of table text)
acts table t room marked (ask.JobDone text n outcome) = is_over table t text n outcome (pool_of table text)

pub few_workers : (table : PoolTable) (t room : ℕ) (marked : Bool) (call : PoolCall) → (pools.act_or_wait table t room marked call).gives.start ≤ most_workers
few_workers table t room marked call = go (pools.waits table marked call)
  where
    go : (b : Bool) → Few (if b then record { table = table; gives = pools.waiting } else pools.act table t room marked call)
    go true = none
    go false = acts table t room marked call
