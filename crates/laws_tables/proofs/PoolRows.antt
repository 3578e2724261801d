-- What calls on pools are answered: a property of replies holds of each row's.
use Rattle.std.proofs.Common.{◌≡◌, ◌&&◌, ◌==◌, ℕ, ℤ, Bool, true, false, not, nat_lt, if◌then◌else◌, List, [], Option, Some, None, codes, decimal, refl}
use Rattle.laws_tables.proofs.Cases.{Empty, Refuses, Values, by_if}
use Rattle.laws_tables.proofs.ThreadRows.{Gives}
use Rattle.tt_calls.specs.declared.outcome.Outcome.{Outcome}
use Rattle.tt_calls.specs.declared.reply.Reply.{Reply}
use Rattle.tt_calls.specs.declared.reply.Reply.TheVariants as reply
use Rattle.tt_calls.specs.declared.reply.Step.{Step}
use Rattle.tt_calls.specs.declared.reply.Step.TheVariants as step
use Rattle.tt_pools.specs.Calls as pools
use Rattle.tt_pools.specs.Jobs.{at, is_job, is_pending, oldest, outcome_of, with_posted_job}
use Rattle.tt_pools.specs.Pools.{PoolTable, is_allowed, new_id, new_pool, pool_of, with_new}
use Rattle.tt_pools.specs.declared.jobs.Queued.{Queued}
use Rattle.tt_pools.specs.declared.pool.Pool.{Pool}
use Rattle.tt_pools.specs.declared.step.PoolStep.{PoolStep}
use Rattle.tt_shared.specs.Acts.{gives_of}
use Rattle.tt_shared.specs.State.{State}

module _ (P : Reply → Type 0) where
  -- a step that answers so
  abbrev pub Steps : Step → Type 0
  Steps step.Wait = ⊥
  Steps (step.Reply answered) = P answered

  abbrev pub Tells : pools.Answered → Type 0
  Tells answered = Steps answered.gives.step

  abbrev Does : pools.Done → Type 0
  Does done = Steps done.gives.step

  -- the reply of a call that did not wait
  pub by_gives : (state : State) (t : ℕ) (gives : PoolStep) → Steps gives.step → Gives P (gives_of state t gives)
  by_gives state t gives tells = go gives.step refl tells
    where
      go : (one : Step) → gives.step ≡ one → Steps one → Gives P (gives_of state t gives)
      go step.Wait is tells = absurd tells
      go (step.Reply answered) is tells = rw (is, gives_of) tells

  module _ (table : PoolTable) (refuses : Refuses P) where
    by_pool : (change : Pool → pools.Done) (text : List ℕ) → ((pool : Pool) → Does (change pool)) → Tells (pools.in_pool change table text)
    by_pool change text does = go (pool_of table text) refl
      where
        go : (found : Option Pool) → pool_of table text ≡ found → Tells (pools.in_pool change table text)
        go None is = rw (is, pools.in_pool) (refuses _ _)
        go (Some pool) is = rw (is, pools.in_pool) (does pool)

    pub by_creates : (least most : ℕ) (init exit : List ℕ) (room : ℕ) → Values P → (is_allowed least most ≡ false → Empty P) →
        Tells (pools.creates table least most init exit room)
    by_creates least most init exit room values none = go (is_allowed least most) refl
      where
        pool : Pool
        pool = new_pool most least init exit

        more : pools.Answered
        more = record { table = with_new table pool; gives = pools.workers_made (new_id table) pool least (reply.Value (new_id table)) }

        allowed : Tells (if nat_lt room least then pools.refuses table (codes "too many threads") else more)
        allowed = by_if Tells (nat_lt room least) _ _ (refuses _ _) (values _)

        go : (b : Bool) → is_allowed least most ≡ b
            → Tells (if not b then pools.refuses table [] else if nat_lt room least then pools.refuses table (codes "too many threads") else more)
        go true is = allowed
        go false is = none is

    pub by_posts : (text script : List ℕ) (detached : Bool) (room : ℕ) → Values P → Tells (pools.posts_in table text script detached room)
    by_posts text script detached room values =
        by_pool (pools.posts text script detached room) text
        (λ pool. by_if Does (pool.workers == 0 && room == 0) (pools.does pool (reply.Refused (codes "too many threads"))) _ (refuses _ _) (grows pool))
      where
        grows : (pool : Pool) → Does (pools.grows text room (pools.job_reply pool.jobs detached)
            (pools.with_jobs pool (with_posted_job pool.jobs script detached)))
        grows pool = go (pools.with_jobs pool (with_posted_job pool.jobs script detached)) (if detached then [] else decimal pool.jobs.next)
          where
            go : (grown : Pool) (job : List ℕ) → Does (pools.grows text room (reply.Value job) grown)
            go grown job = by_if Does (pools.wants_worker grown room) _ (pools.does grown (reply.Value job)) (values job) (values job)

    pub by_looks : (text : List ℕ) (listed : List (List ℕ)) → ((one other : List ℕ) → P (reply.Lists one other)) → Tells (pools.looks table text listed)
    by_looks text listed lists = go (pool_of table text) refl
      where
        go : (found : Option Pool) → pool_of table text ≡ found → Tells (pools.looks table text listed)
        go None is = rw (is, pools.looks) (refuses _ _)
        go (Some pool) is = rw (is, pools.looks) (lists _ _)

    pub by_cancels : (text : List ℕ) (listed : List (List ℕ)) → ((one other : List ℕ) → P (reply.Lists one other)) →
        Tells (pools.in_pool (pools.after_cancelling listed) table text)
    by_cancels text listed lists = by_pool (pools.after_cancelling listed) text (λ pool. lists _ _)

    pub by_gets : (text job : List ℕ) → ((outcome : Outcome) → P (reply.Answer outcome)) → Tells (pools.in_pool (pools.takes_outcome job) table text)
    by_gets text job answers = by_pool (pools.takes_outcome job) text each
      where
        missing : (pool : Pool) → P (reply.Refused (pools.no_outcome job pool.jobs))
        missing pool = by_if (λ message. P (reply.Refused message)) (is_pending pool.jobs job) _ _ (refuses _ _) (refuses _ _)

        each : (pool : Pool) → Does (pools.takes_outcome job pool)
        each pool = go (outcome_of pool.jobs job) refl
          where
            go : (found : Option Outcome) → outcome_of pool.jobs job ≡ found → Does (pools.takes_outcome job pool)
            go None is = rw (is, pools.takes_outcome) (missing pool)
            go (Some outcome) is = rw (is, pools.takes_outcome) (answers outcome)

    pub by_counts : (more : ℤ) (text : List ℕ) → Values P → Tells (pools.in_pool (pools.counts more) table text)
    by_counts more text values = by_pool (pools.counts more) text (λ pool. values _)

    pub by_suspends : (on : Bool) (text : List ℕ) → P reply.Go → Tells (pools.in_pool (pools.suspends on) table text)
    by_suspends on text goes = by_pool (pools.suspends on) text (λ pool. goes)

    -- ---- workers ----

    pub by_jobs : (t : ℕ) (marked : Bool) (text : List ℕ) → ((n : ℕ) (script : List ℕ) (detached : Bool) → P (reply.Job n script detached)) → P reply.JobStop →
        Tells (pools.takes_from table t marked text)
    by_jobs t marked text jobs stop = go (pool_of table text)
      where
        begun : (found : Option (ℕ × Queued)) → P (pools.job_answer found)
        begun None = stop
        begun (Some job) = jobs _ _ _

        go : (found : Option Pool) → Tells (pools.takes_job table t marked text found)
        go None = stop
        go (Some pool) = by_if Tells marked _ _ stop (begun (oldest pool.jobs.queued))

    pub by_ends : (t : ℕ) (text : List ℕ) (n : ℕ) (outcome : Outcome) → P reply.Go → Empty P → Tells (pools.ends_in table t text n outcome)
    by_ends t text n outcome goes none = go (pool_of table text)
      where
        go : (found : Option Pool) → Tells (pools.is_over table t text n outcome found)
        go None = goes
        go (Some pool) = by_if Does (is_job n (at pool.jobs.begun t)) _ _ goes none
