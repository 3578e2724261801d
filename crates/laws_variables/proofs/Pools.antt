-- No call on pools is answered an event, but for one that waits and serves events meanwhile.
use Rattle.std.proofs.Common.{◌≡◌, ◌==◌, ◌&&◌, ℕ, Bool, true, false, not, nat_lt, if◌then◌else◌, List, [], Option, Some, None, negsuc, refl}
use Rattle.std.specs.Bool.{⊤}
use Rattle.laws_variables.specs.VariableEvents.{event_in}
use Rattle.tt_calls.specs.declared.outcome.Outcome.{Outcome}
use Rattle.tt_calls.specs.declared.pool_call.PoolCall.{PoolCall}
use Rattle.tt_calls.specs.declared.pool_call.PoolCall.TheVariants as ask
use Rattle.tt_calls.specs.declared.reply.Reply.{Reply}
use Rattle.tt_calls.specs.declared.reply.Step.{Step}
use Rattle.tt_calls.specs.declared.reply.Step.TheVariants as step
use Rattle.tt_pools.specs.Calls as pools
use Rattle.tt_pools.specs.Jobs.{at, is_job, oldest, outcome_of, with_posted_job}
use Rattle.tt_pools.specs.Pools.{PoolTable, is_allowed, pool_of}
use Rattle.tt_pools.specs.declared.jobs.Queued.{Queued}
use Rattle.tt_pools.specs.declared.pool.Pool.{Pool}

abbrev pub IsNoEvent : Step → Type 0
IsNoEvent step.Wait = ⊤
IsNoEvent (step.Reply answered) = event_in answered ≡ []

abbrev Nothing : pools.Answered → Type 0
Nothing answered = IsNoEvent answered.gives.step

abbrev NothingDone : pools.Done → Type 0
NothingDone done = IsNoEvent done.gives.step

by_if : (b : Bool) (one other : pools.Answered) → Nothing one → Nothing other → Nothing (if b then one else other)
by_if true one other first second = first
by_if false one other first second = second

done_if : (b : Bool) (one other : pools.Done) → NothingDone one → NothingDone other → NothingDone (if b then one else other)
done_if true one other first second = first
done_if false one other first second = second

in_pool : (change : Pool → pools.Done) (table : PoolTable) (text : List ℕ) → ((pool : Pool) → NothingDone (change pool))
    → Nothing (pools.in_pool change table text)
in_pool change table text each = go (pool_of table text) refl
  where
    go : (found : Option Pool) → pool_of table text ≡ found → Nothing (pools.in_pool change table text)
    go None is = rw (is, pools.in_pool) refl
    go (Some pool) is = rw (is, pools.in_pool) (each pool)

takes_outcome : (job : List ℕ) (pool : Pool) → NothingDone (pools.takes_outcome job pool)
takes_outcome job pool = go (outcome_of pool.jobs job) refl
  where
    go : (found : Option Outcome) → outcome_of pool.jobs job ≡ found → NothingDone (pools.takes_outcome job pool)
    go None is = rw (is, pools.takes_outcome) refl
    go (Some outcome) is = rw (is, pools.takes_outcome) refl

begins_job : (t : ℕ) (pool : Pool) → NothingDone (pools.begins_job t pool)
begins_job t pool = go (oldest pool.jobs.queued)
  where
    go : (found : Option (ℕ × Queued)) → IsNoEvent (step.Reply (pools.job_answer found))
    go None = refl
    go (Some job) = refl

grows : (text : List ℕ) (room : ℕ) (answered : Reply) → (event_in answered ≡ []) → (pool : Pool)
    → NothingDone (pools.grows text room answered pool)
grows text room answered nothing pool = done_if (pools.wants_worker pool room) _ _ nothing nothing

posts : (text script : List ℕ) (detached : Bool) (room : ℕ) (pool : Pool) → NothingDone (pools.posts text script detached room pool)
posts text script detached room pool =
    done_if (pool.workers == 0 && room == 0) _ _ refl
    (grows text room (pools.job_reply pool.jobs detached) refl (pools.with_jobs pool (with_posted_job pool.jobs script detached)))

looks : (table : PoolTable) (text : List ℕ) (listed : List (List ℕ)) → Nothing (pools.looks table text listed)
looks table text listed = go (pool_of table text) refl
  where
    go : (found : Option Pool) → pool_of table text ≡ found → Nothing (pools.looks table text listed)
    go None is = rw (is, pools.looks) refl
    go (Some pool) is = rw (is, pools.looks) refl

takes_job : (table : PoolTable) (t : ℕ) (marked : Bool) (text : List ℕ) (found : Option Pool) → Nothing (pools.takes_job table t marked text found)
takes_job table t marked text None = refl
takes_job table t marked text (Some pool) = by_if marked _ _ refl (begins_job t pool)

is_over : (table : PoolTable) (t : ℕ) (text : List ℕ) (n : ℕ) (outcome : Outcome) (found : Option Pool) → Nothing (pools.is_over table t text n outcome found)
is_over table t text n outcome None = refl
is_over table t text n outcome (Some pool) =
    done_if (is_job n (at pool.jobs.begun t)) _ _ refl refl

acts : (table : PoolTable) (t room : ℕ) (marked : Bool) (call : PoolCall) → Nothing (pools.act table t room marked call)
acts table t room marked (ask.Create least most init exit) =
    by_if (not (is_allowed least most)) _ _ refl (by_if (nat_lt room least) _ _ refl refl)
acts table t room marked ask.Names = refl
acts table t room marked (ask.Post text script detached) = in_pool _ table text (posts text script detached room)
acts table t room marked (ask.Look text listed) = looks table text listed
acts table t room marked (ask.Cancel text listed) = in_pool _ table text (λ pool. refl)
acts table t room marked (ask.Get text job) = in_pool _ table text (takes_outcome job)
acts table t room marked (ask.Preserve text) = in_pool _ table text (λ pool. refl)
acts table t room marked (ask.Release text) = in_pool (pools.counts (negsuc 0)) table text (λ pool. refl)
acts table t room marked (ask.Suspend text on) = in_pool _ table text (λ pool. refl)
acts table t room marked (ask.JobTake text) = takes_job table t marked text (pool_of table text)
acts table t room marked (ask.JobDone text n outcome) = is_over table t text n outcome (pool_of table text)

pub answers_no_event : (table : PoolTable) (t room : ℕ) (marked : Bool) (call : PoolCall)
    → IsNoEvent (pools.act_or_wait table t room marked call).gives.step
answers_no_event table t room marked call = go (pools.waits table marked call)
  where
    go : (b : Bool) → Nothing (if b then record { table = table; gives = pools.waiting } else pools.act table t room marked call)
    go true = tt
    go false = acts table t room marked call
