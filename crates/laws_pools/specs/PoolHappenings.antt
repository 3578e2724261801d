-- What happens in a pool when threads act: a table, from an action to its happenings (tpool(n)).
use Rattle.std.specs.Prelude.{ℕ, nat_eq, Bool, List, [], ◌∷◌, Option, Some, None, if◌then◌else◌, negsuc}
use Rattle.std.specs.List.{flat_map}
use Rattle.std.specs.Option.{option_eq}
use Rattle.laws_shared.specs.Actions.{Action, Moment, action_result, moments}
use Rattle.tt_calls.specs.declared.outcome.Outcome.{Outcome}
use Rattle.tt_calls.specs.declared.pool_call.PoolCall.{PoolCall}
use Rattle.tt_calls.specs.declared.pool_call.PoolCall.TheVariants as call
use Rattle.tt_calls.specs.declared.reply.Reply.{Reply}
use Rattle.tt_calls.specs.declared.reply.Reply.TheVariants as reply
use Rattle.tt_calls.specs.declared.request.Request.{Request}
use Rattle.tt_calls.specs.declared.request.Request.TheVariants as ask
use Rattle.tt_ids.specs.Ids.{id_named, number_named}
use Rattle.tt_ids.specs.declared.id.IdKind.TheVariants as kind
use Rattle.tt_pools.specs.Calls.{is_unheld, with_references}
use Rattle.tt_pools.specs.Jobs.{at, cancels}
use Rattle.tt_pools.specs.Pools.{PoolTable, at_number}
use Rattle.tt_pools.specs.declared.jobs.Begun.{Begun}
use Rattle.tt_pools.specs.declared.pool.Pool.{Pool}
use Rattle.tt_shared.specs.Ends.{pool_of_row}
use Rattle.tt_shared.specs.State.{State}
use Rattle.tt_threads.specs.Rows.{row_of}

pub data PoolHappening : Type 0 where
  -- job n was put into the queue by a thread
  Posted : (n from : ℕ) → (detached : Bool) → PoolHappening
  -- it was taken out of the queue, by tpool::cancel or by thread t, which has begun it
  Cancelled : (n : ℕ) → PoolHappening
  Began : (n t : ℕ) → PoolHappening
  -- that thread has handed in what it came to, or has ended before
  Done : (n t : ℕ) → Outcome → PoolHappening
  Lost : (n t : ℕ) → PoolHappening
  -- tpool::get: thread t got what it came to
  Got : (n t : ℕ) → Outcome → PoolHappening
  -- tpool::suspend, tpool::resume
  Suspended : (on : Bool) → PoolHappening
  -- tpool::release: nobody holds the pool any more, and its jobs are dropped
  Closed : PoolHappening

-- ---- calls ----

-- the jobs that these texts name
abbrev pub cancellation_of : Option ℕ → List PoolHappening
cancellation_of None = []
cancellation_of (Some n) = Cancelled n ∷ []

abbrev pub cancellation : (text : List ℕ) → List PoolHappening
cancellation text = cancellation_of (number_named text)

abbrev pub answer_of : (t : ℕ) → Outcome → Option ℕ → List PoolHappening
answer_of t outcome None = []
answer_of t outcome (Some n) = Got n t outcome ∷ []

-- a line for each call by which something happens in the pool that it names
abbrev pub in_call : Pool → (t : ℕ) → PoolCall → Reply → List PoolHappening
in_call pool t (call.Post text script detached) (reply.Value number) = Posted pool.jobs.next t detached ∷ []
in_call pool t (call.Cancel text listed) answered = flat_map cancellation (cancels pool.jobs listed).gone
in_call pool t (call.Get text job) (reply.Answer outcome) = answer_of t outcome (number_named job)
in_call pool t (call.Release text) answered =
    if is_unheld (Some (with_references pool (negsuc 0))) then Closed ∷ [] else []
in_call pool t (call.Suspend text on) answered = Suspended on ∷ []
in_call pool t (call.JobTake text) (reply.Job n script detached) = Began n t ∷ []
in_call pool t (call.JobDone text n outcome) reply.Go = Done n t outcome ∷ []
in_call pool t other answered = []

-- ---- the pool of a number ----

-- a text is the id of pool p
abbrev pub is_id : (p : ℕ) → (text : List ℕ) → Bool
is_id p text = option_eq nat_eq (id_named kind.Pool text) (Some p)

-- what happens in that pool, if it is open
abbrev pub if_open : (Pool → List PoolHappening) → Option Pool → List PoolHappening
if_open happened None = []
if_open happened (Some pool) = happened pool

abbrev pub in_named :
    (p : ℕ) → PoolTable → (text : List ℕ) → (Pool → List PoolHappening) → List PoolHappening
in_named p table text happened = if is_id p text then if_open happened (at_number table p) else []

-- the id in a call
abbrev pub pool_named : PoolCall → Option (List ℕ)
pool_named (call.Create least most init exit) = None
pool_named call.Names = None
pool_named (call.Post text script detached) = Some text
pool_named (call.Look text listed) = Some text
pool_named (call.Cancel text listed) = Some text
pool_named (call.Get text job) = Some text
pool_named (call.Preserve text) = Some text
pool_named (call.Release text) = Some text
pool_named (call.Suspend text on) = Some text
pool_named (call.JobTake text) = Some text
pool_named (call.JobDone text n outcome) = Some text

abbrev pub in_pool_named :
    (p : ℕ) → PoolTable → Option (List ℕ) → (Pool → List PoolHappening) → List PoolHappening
in_pool_named p table None happened = []
in_pool_named p table (Some text) happened = in_named p table text happened

-- the job that a thread leaves, which ends
abbrev pub loss : (t : ℕ) → Option Begun → List PoolHappening
loss t None = []
loss t (Some begun) = Lost begun.job t ∷ []

-- ---- all actions ----

-- what happens in pool p
abbrev pub happens : (p : ℕ) → State → (t : ℕ) → Request → Reply → List PoolHappening
happens p old t (ask.Pool asked) answered =
    in_pool_named p old.pools (pool_named asked) (λ pool. in_call pool t asked answered)
happens p old t (ask.End code) answered =
    in_pool_named p old.pools (pool_of_row (row_of old.rows t)) (λ pool. loss t (at pool.jobs.begun t))
happens p old t request answered = []

-- what happened in it by an action
abbrev pub happenings_by : (p : ℕ) → Moment → List PoolHappening
happenings_by p moment =
    happens p moment.before moment.action.thread moment.action.request
    (action_result moment.before moment.action).gives.reply

-- what happened in it by a list of actions, in order
abbrev pub happenings : (p : ℕ) → State → List Action → List PoolHappening
happenings p state actions = flat_map (happenings_by p) (moments state actions)
