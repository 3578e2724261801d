-- What each call on pools does to the pool of a number.
use Rattle.std.proofs.Common.{◌≡◌, ◌∙◌, ◌==◌, ◌&&◌, ℕ, Bool, true, false, not, nat_lt, if◌then◌else◌, List, [], ◌∷◌, Option, Some, None, negsuc, pos}
use Rattle.std.proofs.Common.{option_and_then, ap, refl, sym, subst, arith}
use Rattle.laws_pools.proofs.Cancels.{by_cancels}
use Rattle.laws_pools.proofs.Moves.{Moves, Single, TableMove, TableStep, begins, done, ends, gets, lost, made, one, posts, quiet, same, suspends}
use Rattle.laws_pools.proofs.NamedPools.{Change, becomes, by_named, still, unchanged}
use Rattle.laws_pools.proofs.NamedPools as named
use Rattle.laws_pools.proofs.Tables.{insert_here, insert_other, none_there, set_here, single_new}
use Rattle.laws_pools.specs.PoolHappenings.{Closed, Lost, PoolHappening, answer_of, in_call, in_named, in_pool_named, pool_named}
use Rattle.laws_pools.specs.PoolHappenings as spec
use Rattle.laws_shared.proofs.Deciding as deciding
use Rattle.tt_calls.specs.declared.outcome.Outcome.{Outcome}
use Rattle.tt_calls.specs.declared.pool_call.PoolCall.{PoolCall}
use Rattle.tt_calls.specs.declared.pool_call.PoolCall.TheVariants as ask
use Rattle.tt_calls.specs.declared.reply.Reply.{Reply}
use Rattle.tt_calls.specs.declared.reply.Reply.TheVariants as reply
use Rattle.tt_ids.specs.Ids.{id_named, number_named}
use Rattle.tt_ids.specs.declared.id.IdKind.TheVariants as kind
use Rattle.tt_pools.specs.Calls as pools
use Rattle.tt_pools.specs.Jobs.{JobTable, at, fails, finishes, is_job, oldest, outcome_of, with_outcome, with_posted_job, without, without_outcome}
use Rattle.tt_pools.specs.Jobs as jobs
use Rattle.tt_pools.specs.Pools.{PoolTable, at_number, is_allowed, new_pool, pool_of, with_new, with_pool, with_pool_at, without_pool}
use Rattle.tt_pools.specs.declared.jobs.Begun.{Begun}
use Rattle.tt_pools.specs.declared.jobs.Queued.{Queued}
use Rattle.tt_pools.specs.declared.pool.Pool.{Pool}
use Rattle.tt_shared.specs.State.{reply_of}

-- ---- a pool more ----

new_step : (p : ℕ) (table : PoolTable) (most least : ℕ) (init exit : List ℕ) → Single p table
    → TableStep p table (with_new table (new_pool most least init exit)) []
new_step p table most least init exit single = record { move = go (table.next == p) refl; single = single_new p table _ single }
  where
    pool : Pool
    pool = new_pool most least init exit

    go : (b : Bool) → (table.next == p) ≡ b → TableMove p table (with_new table pool) []
    go true is =
        let alike : table.next ≡ p = deciding.same table.next p is in
        made pool (none_there p table.pools (single.later (omega (arith, alike)))) (omega (arith, alike))
        (subst (λ n. at_number (with_new table pool) n ≡ Some pool) alike (insert_here table.next table.pools pool)) refl refl
    go false is =
        same (insert_other p table.next table.pools pool (λ alike. deciding.differs table.next p is (sym alike))) (omega arith)

step_if : (p : ℕ) (table : PoolTable) (b : Bool) (first second : pools.Answered) → TableStep p table first.table [] → TableStep p table second.table []
    → TableStep p table (if b then first else second).table []
step_if p table true first second here there = here
step_if p table false first second here there = there

by_create : (p : ℕ) (table : PoolTable) (least most : ℕ) (init exit : List ℕ) (room : ℕ) → Single p table
    → TableStep p table (pools.creates table least most init exit room).table []
by_create p table least most init exit room single =
    step_if p table (not (is_allowed least most)) _ _ (unchanged p table table refl single)
    (step_if p table (nat_lt room least) _ _ (unchanged p table table refl single) (new_step p table most least init exit single))

-- ---- a change of a pool ----

none_in : (change : Pool → pools.Done) (table : PoolTable) (text : List ℕ) → pool_of table text ≡ None
    → pools.in_pool change table text ≡ pools.not_found table text
none_in change table text is = rw (is, pools.in_pool) refl

pub some_in : (change : Pool → pools.Done) (table : PoolTable) (text : List ℕ) (pool : Pool) → pool_of table text ≡ Some pool
    → pools.in_pool change table text ≡ pools.done_in table text (change pool)
some_in change table text pool is = rw (is, pools.in_pool) refl

-- what a change of a pool makes of it
abbrev Did : Pool → (t : ℕ) → PoolCall → pools.Done → Type 0
Did pool t call result = Moves pool.suspended pool.jobs result.pool.suspended result.pool.jobs (in_call pool t call (reply_of result.gives.step))

by_in_pool : (p : ℕ) (table : PoolTable) (text : List ℕ) (t : ℕ) (call : PoolCall) (change : Pool → pools.Done) → Single p table
    → ((pool : Pool) → Did pool t call (change pool))
    → TableStep p table (pools.in_pool change table text).table
    (in_named p table text (λ pool. in_call pool t call (reply_of (pools.in_pool change table text).gives.step)))
by_in_pool p table text t call change single each =
    by_named p table text single (pools.in_pool change table text).table _ (λ is. ap (λ answered. answered.table) (none_in change table text is))
    (λ pool is.
    subst (λ (answered : pools.Answered). Change table text pool answered.table (in_call pool t call (reply_of answered.gives.step)))
    (sym (some_in change table text pool is)) (becomes (change pool).pool _ refl (each pool)))

did_if : (pool : Pool) (t : ℕ) (call : PoolCall) (b : Bool) (first second : pools.Done) → Did pool t call first → Did pool t call second
    → Did pool t call (if b then first else second)
did_if pool t call true first second here there = here
did_if pool t call false first second here there = there

by_posts : (text script : List ℕ) (detached : Bool) (room t : ℕ) (pool : Pool)
    → Did pool t (ask.Post text script detached) (pools.posts text script detached room pool)
by_posts text script detached room t pool =
    did_if pool t (ask.Post text script detached) (pool.workers == 0 && room == 0) _ _ (one quiet)
    (did_if pool t (ask.Post text script detached) (pools.wants_worker with_job room) _ _ (one (posts script t detached)) (one (posts script t detached)))
  where
    with_job : Pool
    with_job = pools.with_jobs pool (with_posted_job pool.jobs script detached)

by_gets : (text job : List ℕ) (t : ℕ) (pool : Pool) → Did pool t (ask.Get text job) (pools.takes_outcome job pool)
by_gets text job t pool = go (outcome_of pool.jobs job) refl
  where
    at_number : (n : ℕ) (outcome : Outcome) → number_named job ≡ Some n → at pool.jobs.done n ≡ Some outcome
        → Moves pool.suspended pool.jobs pool.suspended (without_outcome pool.jobs job) (answer_of t outcome (number_named job))
    at_number n outcome is there =
        subst
        (λ found. Moves pool.suspended pool.jobs pool.suspended
        (elim found [ Some n ↦ record pool.jobs { done = without pool.jobs.done n } | None ↦ pool.jobs ])
        (answer_of t outcome found))
        (sym is) (one (gets n t outcome there))

    by_number : (found : Option ℕ) (outcome : Outcome) → number_named job ≡ found → option_and_then (at pool.jobs.done) found ≡ Some outcome
        → Moves pool.suspended pool.jobs pool.suspended (without_outcome pool.jobs job) (answer_of t outcome (number_named job))
    by_number None outcome is there = absurd (cc there)
    by_number (Some n) outcome is there = at_number n outcome is there

    go : (found : Option Outcome) → outcome_of pool.jobs job ≡ found → Did pool t (ask.Get text job) (pools.takes_outcome job pool)
    go None is = rw (is, pools.takes_outcome) (one quiet)
    go (Some outcome) is =
        rw (is, pools.takes_outcome)
        (by_number (number_named job) outcome refl is)

by_begins : (text : List ℕ) (t : ℕ) (pool : Pool) → pool.suspended ≡ false → Did pool t (ask.JobTake text) (pools.begins_job t pool)
by_begins text t pool goes_on = go pool.jobs.queued refl
  where
    go : (queued : List (ℕ × Queued)) → pool.jobs.queued ≡ queued
        → Moves pool.suspended pool.jobs pool.suspended (jobs.begins pool.jobs t queued) (in_call pool t (ask.JobTake text) (pools.job_answer (oldest queued)))
    go [] is = one quiet
    go (job ∷ later) is = one (begins job.0 t job.1 later is goes_on)

by_ends : (text : List ℕ) (t n : ℕ) (outcome : Outcome) (pool : Pool) → Did pool t (ask.JobDone text n outcome) (pools.ends_job t n outcome pool)
by_ends text t n outcome pool = go (at pool.jobs.begun t) refl
  where
    go : (found : Option Begun) → at pool.jobs.begun t ≡ found → Did pool t (ask.JobDone text n outcome) (
        if is_job n found
        then pools.does (pools.with_jobs pool (finishes pool.jobs t n outcome found)) reply.Go
        else pools.does pool (reply.Refused [])
        )
    go None is = one quiet
    go (Some begun) is = at_job (begun.job == n) refl
      where
        at_job : (b : Bool) → (begun.job == n) ≡ b → Did pool t (ask.JobDone text n outcome) (
            if b
            then pools.does (pools.with_jobs pool (if b then with_outcome pool.jobs t begun outcome else pool.jobs)) reply.Go
            else pools.does pool (reply.Refused [])
            )
        at_job true same_is =
            subst (λ k. Moves pool.suspended pool.jobs pool.suspended (with_outcome pool.jobs t begun outcome) (spec.Done k t outcome ∷ []))
            (deciding.same begun.job n same_is) (one (ends t begun outcome _ is (done outcome)))
        at_job false same_is = one quiet

-- ---- calls that may find the pool closed ----

by_looks : (p : ℕ) (table : PoolTable) (text : List ℕ) (listed : List (List ℕ)) (t : ℕ) → Single p table → (told : Reply)
    → TableStep p table (pools.looks table text listed).table (in_named p table text (λ pool. in_call pool t (ask.Look text listed) told))
by_looks p table text listed t single told =
    by_named p table text single (pools.looks table text listed).table _ (λ is. rw (is, pools.looks) refl) (λ pool is. still (rw (is, pools.looks) refl))

-- a thread takes a job of a pool that is not suspended
abbrev pub GoesOn : PoolTable → (marked : Bool) → List ℕ → Type 0
GoesOn table marked text = (pool : Pool) → pool_of table text ≡ Some pool → marked ≡ false → pool.suspended ≡ false

by_takes : (p : ℕ) (table : PoolTable) (t : ℕ) (marked : Bool) (text : List ℕ) → Single p table → GoesOn table marked text →
    TableStep p table (pools.takes_from table t marked text).table
    (in_named p table text (λ pool. in_call pool t (ask.JobTake text) (reply_of (pools.takes_from table t marked text).gives.step)))
by_takes p table t marked text single goes_on =
    by_named p table text single (pools.takes_from table t marked text).table _ (λ is. ap (λ found. (pools.takes_job table t marked text found).table) is)
    (λ pool is.
    subst (λ found. Change table text pool (pools.takes_job table t marked text found).table
    (in_call pool t (ask.JobTake text) (reply_of (pools.takes_job table t marked text found).gives.step))) (sym is) (go pool is marked refl))
  where
    go : (pool : Pool) → pool_of table text ≡ Some pool → (b : Bool) → marked ≡ b → Change table text pool (pools.takes_job table t b text (Some pool)).table
        (in_call pool t (ask.JobTake text) (reply_of (pools.takes_job table t b text (Some pool)).gives.step))
    go pool is true marked_is = still refl
    go pool is false marked_is = becomes (pools.begins_job t pool).pool _ refl (by_begins text t pool (goes_on pool is marked_is))

by_over : (p : ℕ) (table : PoolTable) (t : ℕ) (text : List ℕ) (n : ℕ) (outcome : Outcome) → Single p table →
    TableStep p table (pools.ends_in table t text n outcome).table
    (in_named p table text (λ pool. in_call pool t (ask.JobDone text n outcome) (reply_of (pools.ends_in table t text n outcome).gives.step)))
by_over p table t text n outcome single =
    by_named p table text single (pools.ends_in table t text n outcome).table _ (λ is. ap (λ found. (pools.is_over table t text n outcome found).table) is)
    (λ pool is.
    subst (λ found. Change table text pool (pools.is_over table t text n outcome found).table
    (in_call pool t (ask.JobDone text n outcome) (reply_of (pools.is_over table t text n outcome found).gives.step))) (sym is)
    (becomes (pools.ends_job t n outcome pool).pool _ refl (by_ends text t n outcome pool)))

-- ---- tpool::release ----

-- the pool that an id names after it was put in place
found_now : (table : PoolTable) (text : List ℕ) (pool now : Pool) → pool_of table text ≡ Some pool → pool_of (with_pool table text now) text ≡ Some now
found_now table text pool now is = go (id_named kind.Pool text) refl is
  where
    go : (named : Option ℕ) → id_named kind.Pool text ≡ named → option_and_then (at_number table) named ≡ Some pool
        → pool_of (with_pool table text now) text ≡ Some now
    go None named_is is = absurd (cc is)
    go (Some n) named_is is =
        subst (λ named. option_and_then (at_number (with_pool_at table now named)) named ≡ Some now) (sym named_is) (set_here n table.pools pool now is)

by_releases : (p : ℕ) (table : PoolTable) (text : List ℕ) (t : ℕ) → Single p table →
    TableStep p table (pools.releases table text).table
    (in_named p table text (λ pool. in_call pool t (ask.Release text) (reply_of (pools.releases table text).gives.step)))
by_releases p table text t single =
    by_named p table text single (pools.releases table text).table _ none some
  where
    release : Pool → pools.Done
    release = pools.counts (negsuc 0)

    none : pool_of table text ≡ None → (pools.releases table text).table ≡ table
    none is =
        ap (λ (answered : pools.Answered). pools.without_unheld answered.table text) (none_in release table text is)
        ∙ ap (λ found. if pools.is_unheld found then without_pool table text else table) is

    some : (pool : Pool) → pool_of table text ≡ Some pool
        → Change table text pool (pools.releases table text).table (in_call pool t (ask.Release text) (reply_of (pools.releases table text).gives.step))
    some pool is =
        let now = pools.with_references pool (negsuc 0) in
        let moved = with_pool table text now in
        let table_is : (pools.releases table text).table ≡ (if pools.is_unheld (Some now) then without_pool moved text else moved) =
        ap (λ (answered : pools.Answered). pools.without_unheld answered.table text) (some_in release table text pool is)
        ∙ ap (λ found. if pools.is_unheld found then without_pool moved text else moved) (found_now table text pool now is) in
        subst (λ new. Change table text pool new (if pools.is_unheld (Some now) then Closed ∷ [] else [])) (sym table_is) (go (pools.is_unheld (Some now)))
      where
        go : (b : Bool) → Change table text pool (if b then without_pool (with_pool table text (pools.with_references pool (negsuc 0))) text
            else with_pool table text (pools.with_references pool (negsuc 0))) (if b then Closed ∷ [] else [])
        go true = named.ends (pools.with_references pool (negsuc 0)) refl
        go false = becomes (pools.with_references pool (negsuc 0)) [] refl (one quiet)

-- ---- the table ----

pub by_call : (p : ℕ) (table : PoolTable) (t room : ℕ) (marked : Bool) (call : PoolCall) → Single p table
    → ((text : List ℕ) → call ≡ ask.JobTake text → GoesOn table marked text)
    → TableStep p table (pools.act table t room marked call).table
    (in_pool_named p table (pool_named call) (λ pool. in_call pool t call (reply_of (pools.act table t room marked call).gives.step)))
by_call p table t room marked (ask.Create least most init exit) single goes_on = by_create p table least most init exit room single
by_call p table t room marked ask.Names single goes_on = unchanged p table table refl single
by_call p table t room marked (ask.Post text script detached) single goes_on =
    by_in_pool p table text t (ask.Post text script detached) (pools.posts text script detached room) single (by_posts text script detached room t)
by_call p table t room marked (ask.Look text listed) single goes_on =
    by_looks p table text listed t single (reply_of (pools.looks table text listed).gives.step)
by_call p table t room marked (ask.Cancel text listed) single goes_on =
    by_in_pool p table text t (ask.Cancel text listed) (pools.after_cancelling listed) single (λ pool. by_cancels pool.suspended pool.jobs listed)
by_call p table t room marked (ask.Get text job) single goes_on =
    by_in_pool p table text t (ask.Get text job) (pools.takes_outcome job) single (by_gets text job t)
by_call p table t room marked (ask.Preserve text) single goes_on =
    by_in_pool p table text t (ask.Preserve text) (pools.counts (pos 1)) single (λ pool. one quiet)
by_call p table t room marked (ask.Release text) single goes_on = by_releases p table text t single
by_call p table t room marked (ask.Suspend text on) single goes_on =
    by_in_pool p table text t (ask.Suspend text on) (pools.suspends on) single (λ pool. one (suspends on))
by_call p table t room marked (ask.JobTake text) single goes_on = by_takes p table t marked text single (goes_on text refl)
by_call p table t room marked (ask.JobDone text n outcome) single goes_on = by_over p table t text n outcome single

-- ---- the end of a thread ----

pub by_end : (p : ℕ) (table : PoolTable) (t : ℕ) (left : Option (List ℕ)) → Single p table →
    TableStep p table (pools.table_after_end table t left) (in_pool_named p table left (λ pool. spec.loss t (at pool.jobs.begun t)))
by_end p table t None single = unchanged p table table refl single
by_end p table t (Some text) single =
    by_named p table text single (pools.loses_at table t text (pool_of table text)) _ (λ is. ap (pools.loses_at table t text) is)
    (λ pool is.
    subst (λ found. Change table text pool (pools.loses_at table t text found) (spec.loss t (at pool.jobs.begun t))) (sym is)
    (becomes (pools.loses t pool) _ refl (go pool (at pool.jobs.begun t) refl)))
  where
    go : (pool : Pool) (found : Option Begun) → at pool.jobs.begun t ≡ found
        → Moves pool.suspended pool.jobs pool.suspended (fails pool.jobs t found) (spec.loss t found)
    go pool None is = one quiet
    go pool (Some begun) is = one (ends t begun _ _ is lost)
