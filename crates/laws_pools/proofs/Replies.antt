-- A call on pools that need not wait is replied to.
use Rattle.std.proofs.Common.{◌≡◌, ◌==◌, ◌&&◌, ℕ, Bool, true, false, not, nat_lt, if◌then◌else◌, List, Option, Some, None, negsuc, pos, refl}
use Rattle.std.specs.Bool.{⊤}
use Rattle.tt_calls.specs.declared.outcome.Outcome.{Outcome}
use Rattle.tt_calls.specs.declared.pool_call.PoolCall.{PoolCall}
use Rattle.tt_calls.specs.declared.pool_call.PoolCall.TheVariants as ask
use Rattle.tt_calls.specs.declared.reply.Step.{Step}
use Rattle.tt_calls.specs.declared.reply.Step.TheVariants as step
use Rattle.tt_pools.specs.Calls as pools
use Rattle.tt_pools.specs.Jobs.{at, is_job, outcome_of, with_posted_job}
use Rattle.tt_pools.specs.Pools.{PoolTable, is_allowed, pool_of}
use Rattle.tt_pools.specs.declared.pool.Pool.{Pool}

abbrev pub IsReply : Step → Type 0
IsReply step.Wait = ⊥
IsReply (step.Reply answered) = ⊤

abbrev Replied : pools.Answered → Type 0
Replied answered = IsReply answered.gives.step

abbrev RepliedDone : pools.Done → Type 0
RepliedDone done = IsReply done.gives.step

by_if : (b : Bool) (one other : pools.Answered) → Replied one → Replied other → Replied (if b then one else other)
by_if true one other first second = first
by_if false one other first second = second

done_if : (b : Bool) (one other : pools.Done) → RepliedDone one → RepliedDone other → RepliedDone (if b then one else other)
done_if true one other first second = first
done_if false one other first second = second

in_pool : (change : Pool → pools.Done) (table : PoolTable) (text : List ℕ) → ((pool : Pool) → RepliedDone (change pool))
    → Replied (pools.in_pool change table text)
in_pool change table text each = go (pool_of table text) refl
  where
    go : (found : Option Pool) → pool_of table text ≡ found → Replied (pools.in_pool change table text)
    go None is = rw (is, pools.in_pool) tt
    go (Some pool) is = rw (is, pools.in_pool) (each pool)

takes_outcome : (job : List ℕ) (pool : Pool) → RepliedDone (pools.takes_outcome job pool)
takes_outcome job pool = go (outcome_of pool.jobs job) refl
  where
    go : (found : Option Outcome) → outcome_of pool.jobs job ≡ found → RepliedDone (pools.takes_outcome job pool)
    go None is = rw (is, pools.takes_outcome) tt
    go (Some outcome) is = rw (is, pools.takes_outcome) tt

posts : (text script : List ℕ) (detached : Bool) (room : ℕ) (pool : Pool) → RepliedDone (pools.posts text script detached room pool)
posts text script detached room pool =
    done_if (pool.workers == 0 && room == 0) _ _ tt
    (done_if (pools.wants_worker (pools.with_jobs pool (with_posted_job pool.jobs script detached)) room) _ _ tt tt)

looks : (table : PoolTable) (text : List ℕ) (listed : List (List ℕ)) → Replied (pools.looks table text listed)
looks table text listed = go (pool_of table text) refl
  where
    go : (found : Option Pool) → pool_of table text ≡ found → Replied (pools.looks table text listed)
    go None is = rw (is, pools.looks) tt
    go (Some pool) is = rw (is, pools.looks) tt

takes_job : (table : PoolTable) (t : ℕ) (marked : Bool) (text : List ℕ) (found : Option Pool) → Replied (pools.takes_job table t marked text found)
takes_job table t marked text None = tt
takes_job table t marked text (Some pool) = by_if marked _ _ tt tt

is_over : (table : PoolTable) (t : ℕ) (text : List ℕ) (n : ℕ) (outcome : Outcome) (found : Option Pool) → Replied (pools.is_over table t text n outcome found)
is_over table t text n outcome None = tt
is_over table t text n outcome (Some pool) = done_if (is_job n (at pool.jobs.begun t)) _ _ tt tt

pub replies : (table : PoolTable) (t room : ℕ) (marked : Bool) (call : PoolCall) → Replied (pools.act table t room marked call)
replies table t room marked (ask.Create least most init exit) =
    by_if (not (is_allowed least most)) _ _ tt (by_if (nat_lt room least) _ _ tt tt)
replies table t room marked ask.Names = tt
replies table t room marked (ask.Post text script detached) = in_pool _ table text (posts text script detached room)
replies table t room marked (ask.Look text listed) = looks table text listed
replies table t room marked (ask.Cancel text listed) = in_pool (pools.after_cancelling listed) table text (λ pool. tt)
replies table t room marked (ask.Get text job) = in_pool _ table text (takes_outcome job)
replies table t room marked (ask.Preserve text) = in_pool (pools.counts (pos 1)) table text (λ pool. tt)
replies table t room marked (ask.Release text) = in_pool (pools.counts (negsuc 0)) table text (λ pool. tt)
replies table t room marked (ask.Suspend text on) = in_pool (pools.suspends on) table text (λ pool. tt)
replies table t room marked (ask.JobTake text) = takes_job table t marked text (pool_of table text)
replies table t room marked (ask.JobDone text n outcome) = is_over table t text n outcome (pool_of table text)
