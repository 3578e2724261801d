-- What calls on pools do, and when they wait: a case each (tpool(n)).
use Rattle.std.specs.Prelude.{ℕ, ◌+◌, ◌-◌, Bool, true, false, ◌&&◌, ◌||◌, not, nat_lt, List, [], ◌++◌, codes, Option}
use Rattle.std.specs.Prelude.{Some, None, if◌then◌else◌, ℤ, pos, negsuc, ◌+ℤ◌, ◌==◌}
use Rattle.std.specs.Fmt.{decimal, signed_decimal}
use Rattle.std.specs.List.{filter, list_any}
use Rattle.tt_calls.specs.declared.outcome.Outcome.{Outcome}
use Rattle.tt_calls.specs.declared.pool_call.PoolCall.{PoolCall}
use Rattle.tt_calls.specs.declared.pool_call.PoolCall.TheVariants as ask
use Rattle.tt_calls.specs.declared.reply.Reply.{Reply}
use Rattle.tt_calls.specs.declared.reply.Reply.TheVariants.{Go, Value, Refused, Answer, Job, JobStop, Lists}
use Rattle.tt_calls.specs.declared.reply.Step.TheVariants as step
use Rattle.tt_lists.specs.Spelling.{list_of}
use Rattle.tt_pools.specs.Jobs.{Cancelled, JobTable, begins, cancels, fails, finishes, at, has_none, is_done, is_job}
use Rattle.tt_pools.specs.Jobs.{is_pending, oldest, outcome_of, with_posted_job, unfinished, without_outcome}
use Rattle.tt_pools.specs.Pools.{PoolTable, is_allowed, new_id, new_pool, pool_ids, pool_of, with_new, with_pool}
use Rattle.tt_pools.specs.Pools.{without_pool, worker_of}
use Rattle.tt_pools.specs.declared.calls.Hold.{Hold}
use Rattle.tt_pools.specs.declared.calls.Hold.TheVariants.{Taken, GivenUp}
use Rattle.tt_pools.specs.declared.jobs.Queued.{Queued}
use Rattle.tt_pools.specs.declared.pool.Pool.{Pool}
use Rattle.tt_pools.specs.declared.step.PoolStep.{PoolStep}

-- ---- when a thread waits ----

-- of the listed jobs none is done and one is pending (tpool::wait)
abbrev pub lacks_done : JobTable → List (List ℕ) → Bool
lacks_done jobs listed = not (list_any (is_done jobs) listed) && list_any (is_pending jobs) listed

abbrev pub waits_to_look : List (List ℕ) → Option Pool → Bool
waits_to_look listed None = false
waits_to_look listed (Some pool) = lacks_done pool.jobs listed

-- a worker waits while its pool is suspended or no job is queued
abbrev pub waits_for_job : Option Pool → Bool
waits_for_job None = false
waits_for_job (Some pool) = pool.suspended || has_none pool.jobs.queued

abbrev pub waits : PoolTable → (marked : Bool) → PoolCall → Bool
waits table marked (ask.Look text listed) = waits_to_look listed (pool_of table text)
waits table marked (ask.JobTake text) = not marked && waits_for_job (pool_of table text)
waits table marked call = false

-- ---- what a call does ----

-- a reply, for which no workers are made
abbrev pub replies : Reply → PoolStep
replies reply = record { step = step.Reply reply; start = 0; worker = None }

-- the table after a call, and what it gives: the reply, how many workers are to be made, and what each begins with
pub record Answered : Type 0 where
  pub table : PoolTable
  pub gives : PoolStep

abbrev pub answers : PoolTable → Reply → Answered
answers table reply = record { table = table; gives = replies reply }

abbrev pub refuses : PoolTable → List ℕ → Answered
refuses table message = answers table (Refused message)

abbrev pub missing : List ℕ → List ℕ
missing text = codes "can not find threadpool \"" ++ (text ++ codes "\"")

abbrev pub not_found : PoolTable → List ℕ → Answered
not_found table text = refuses table (missing text)

-- a pool after a call on it, and what that gives
pub record Done : Type 0 where
  pub pool : Pool
  pub gives : PoolStep

abbrev pub does : Pool → Reply → Done
does pool reply = record { pool = pool; gives = replies reply }

abbrev pub done_in : PoolTable → List ℕ → Done → Answered
done_in table text done = record { table = with_pool table text done.pool; gives = done.gives }

abbrev pub in_pool : (Pool → Done) → PoolTable → List ℕ → Answered
in_pool change table text =
    elim (pool_of table text) [ None ↦ not_found table text | Some pool ↦ done_in table text (change pool) ]

-- so many workers are made of a pool
abbrev pub workers_made : (text : List ℕ) → Pool → (start : ℕ) → Reply → PoolStep
workers_made text pool start reply = record {
  step = step.Reply reply;
  start = start;
  worker = if nat_lt 0 start then Some (worker_of text pool) else None;
}

-- tpool::create: a pool with its least workers, if there is room for them; counts that no command asks for are refused
-- with the empty text
abbrev pub creates : PoolTable → (least most : ℕ) → (init exit : List ℕ) → (room : ℕ) → Answered
creates table least most init exit room =
    if not (is_allowed least most) then refuses table [] else
    if nat_lt room least then refuses table (codes "too many threads") else
    record {
      table = with_new table (new_pool most least init exit);
      gives = workers_made (new_id table) (new_pool most least init exit) least (Value (new_id table));
    }

-- tpool::post: the job is queued; if more jobs are unfinished than there are workers, one worker is made, if the
-- pool may have it and there is room
abbrev pub wants_worker : Pool → (room : ℕ) → Bool
wants_worker pool room = nat_lt pool.workers (unfinished pool.jobs) && (nat_lt pool.workers pool.most && nat_lt 0 room)

abbrev pub with_jobs : Pool → JobTable → Pool
with_jobs pool jobs = record pool { jobs = jobs }

abbrev pub with_workers : Pool → ℕ → Pool
with_workers pool workers = record pool { workers = workers }

abbrev pub job_reply : JobTable → (detached : Bool) → Reply
job_reply jobs detached = Value (if detached then [] else decimal jobs.next)

abbrev pub grows : (text : List ℕ) → (room : ℕ) → Reply → Pool → Done
grows text room reply pool =
    if wants_worker pool room
    then record { pool = with_workers pool (pool.workers + 1); gives = workers_made text pool 1 reply }
    else does pool reply

abbrev pub posts : (text script : List ℕ) → (detached : Bool) → (room : ℕ) → Pool → Done
posts text script detached room pool =
    if pool.workers == 0 && room == 0 then does pool (Refused (codes "too many threads")) else
    grows text room (job_reply pool.jobs detached) (with_jobs pool (with_posted_job pool.jobs script detached))

abbrev pub posts_in : PoolTable → (text script : List ℕ) → (detached : Bool) → (room : ℕ) → Answered
posts_in table text script detached room = in_pool (posts text script detached room) table text

-- tpool::wait: the listed jobs that are done, and those that are pending
abbrev pub look_reply : JobTable → List (List ℕ) → Reply
look_reply jobs listed = Lists (list_of (filter (is_done jobs) listed)) (list_of (filter (is_pending jobs) listed))

abbrev pub looks : PoolTable → (text : List ℕ) → List (List ℕ) → Answered
looks table text listed =
    elim (pool_of table text) [
      | None ↦ not_found table text
      | Some pool ↦ answers table (look_reply pool.jobs listed)
    ]

-- tpool::cancel
abbrev pub after_cancel : Pool → Cancelled → Done
after_cancel pool left = does (with_jobs pool left.jobs) (Lists (list_of left.gone) (list_of left.others))

abbrev pub after_cancelling : List (List ℕ) → Pool → Done
after_cancelling listed pool = after_cancel pool (cancels pool.jobs listed)

-- tpool::get: what a job came to, once
abbrev pub no_outcome : (job : List ℕ) → JobTable → List ℕ
no_outcome job jobs =
    if is_pending jobs job
    then codes "job \"" ++ (job ++ codes "\" is not completed")
    else codes "no such job \"" ++ (job ++ codes "\"")

abbrev pub takes_outcome : (job : List ℕ) → Pool → Done
takes_outcome job pool =
    elim (outcome_of pool.jobs job) [
      | Some outcome ↦ does (with_jobs pool (without_outcome pool.jobs job)) (Answer outcome)
      | None ↦ does pool (Refused (no_outcome job pool.jobs))
    ]

-- tpool::preserve, tpool::release
abbrev pub with_references : Pool → ℤ → Pool
with_references pool more = record pool { count = pool.count +ℤ more }

abbrev pub more : Hold → ℤ
more Taken = pos 1
more GivenUp = negsuc 0

abbrev pub counts : ℤ → Pool → Done
counts more pool = does (with_references pool more) (Value (signed_decimal (with_references pool more).count))

-- then a pool that nobody holds any more is closed, and its jobs are dropped
abbrev pub is_unheld : Option Pool → Bool
is_unheld None = false
is_unheld (Some pool) = elim pool.count [ pos n ↦ n == 0 | negsuc n ↦ true ]

abbrev pub without_unheld : PoolTable → List ℕ → PoolTable
without_unheld table text = if is_unheld (pool_of table text) then without_pool table text else table

abbrev pub closes_unheld : List ℕ → Answered → Answered
closes_unheld text answered = record answered { table = without_unheld answered.table text }

abbrev pub releases : PoolTable → List ℕ → Answered
releases table text = closes_unheld text (in_pool (counts (negsuc 0)) table text)

-- tpool::suspend, tpool::resume
abbrev pub suspends : Bool → Pool → Done
suspends on pool = does (record pool { suspended = on }) Go

-- a worker's next job: none if its pool is closed, or it is to stop
abbrev pub job_answer : Option (ℕ × Queued) → Reply
job_answer None = JobStop
job_answer (Some job) = Job job.0 job.1.script job.1.detached

abbrev pub begins_job : ℕ → Pool → Done
begins_job t pool = does (with_jobs pool (begins pool.jobs t pool.jobs.queued)) (job_answer (oldest pool.jobs.queued))

abbrev pub takes_job : PoolTable → ℕ → (marked : Bool) → List ℕ → Option Pool → Answered
takes_job table t marked text None = answers table JobStop
takes_job table t marked text (Some pool) =
    if marked then answers table JobStop else done_in table text (begins_job t pool)

abbrev pub takes_from : PoolTable → ℕ → (marked : Bool) → List ℕ → Answered
takes_from table t marked text = takes_job table t marked text (pool_of table text)

-- what its job came to; of a closed pool nothing is recorded, and a job that it has not begun is refused
abbrev pub ends_job : ℕ → ℕ → Outcome → Pool → Done
ends_job t n outcome pool =
    if is_job n (at pool.jobs.begun t)
    then does (with_jobs pool (finishes pool.jobs t n outcome (at pool.jobs.begun t))) Go
    else does pool (Refused [])

abbrev pub is_over : PoolTable → ℕ → (text : List ℕ) → (n : ℕ) → Outcome → Option Pool → Answered
is_over table t text n outcome None = answers table Go
is_over table t text n outcome (Some pool) = done_in table text (ends_job t n outcome pool)

abbrev pub ends_in : PoolTable → ℕ → (text : List ℕ) → (n : ℕ) → Outcome → Answered
ends_in table t text n outcome = is_over table t text n outcome (pool_of table text)

abbrev pub act : PoolTable → ℕ → (room : ℕ) → (marked : Bool) → PoolCall → Answered
act table t room marked (ask.Create least most init exit) = creates table least most init exit room
act table t room marked ask.Names = answers table (Value (list_of (pool_ids table)))
act table t room marked (ask.Post text script detached) = posts_in table text script detached room
act table t room marked (ask.Look text listed) = looks table text listed
act table t room marked (ask.Cancel text listed) = in_pool (after_cancelling listed) table text
act table t room marked (ask.Get text job) = in_pool (takes_outcome job) table text
act table t room marked (ask.Preserve text) = in_pool (counts (pos 1)) table text
act table t room marked (ask.Release text) = releases table text
act table t room marked (ask.Suspend text on) = in_pool (suspends on) table text
act table t room marked (ask.JobTake text) = takes_from table t marked text
act table t room marked (ask.JobDone text n outcome) = ends_in table t text n outcome

-- ---- the end of a worker ----

-- its pool has one worker less, and its begun job has failed
abbrev pub loses : ℕ → Pool → Pool
loses t pool = with_workers (with_jobs pool (fails pool.jobs t (at pool.jobs.begun t))) (pool.workers - 1)

abbrev pub loses_at : PoolTable → ℕ → List ℕ → Option Pool → PoolTable
loses_at table t text None = table
loses_at table t text (Some pool) = with_pool table text (loses t pool)

abbrev pub table_after_end : PoolTable → ℕ → (worker_of : Option (List ℕ)) → PoolTable
table_after_end table t None = table
table_after_end table t (Some text) = loses_at table t text (pool_of table text)

-- ---- a call whole ----

-- a thread that waits changes nothing
abbrev pub waiting : PoolStep
waiting = record { step = step.Wait; start = 0; worker = None }

abbrev pub act_or_wait : PoolTable → ℕ → (room : ℕ) → (marked : Bool) → PoolCall → Answered
act_or_wait table t room marked call =
    if waits table marked call then record { table = table; gives = waiting } else act table t room marked call
