-- What is known of the steps before one: the senders of posts, the pools of workers, and who gets reports of errors.
use Rattle.std.specs.Prelude.{ℕ, ◌+◌, suc, zero, List, [], ◌∷◌, ◌++◌, Option, Some, None, if◌then◌else◌}
use Rattle.std.specs.Option.{option_to_list}
use Rattle.tt_calls.specs.declared.pool_call.PoolCall.{PoolCall}
use Rattle.tt_calls.specs.declared.pool_call.PoolCall.TheVariants as pool
use Rattle.tt_calls.specs.declared.reply.Reply.{Reply}
use Rattle.tt_calls.specs.declared.reply.Reply.TheVariants as reply
use Rattle.tt_calls.specs.declared.request.Request.{Request}
use Rattle.tt_calls.specs.declared.request.Request.TheVariants as ask
use Rattle.tt_before.specs.Steps.{Entry, Step, Stepped, Tick, is_done}
use Rattle.tt_before.specs.declared.known.Post.{Post}
use Rattle.tt_before.specs.declared.known.Worker.{Worker}
use Rattle.tt_ids.specs.Ids.{id_named}
use Rattle.tt_ids.specs.declared.id.IdKind.TheVariants.{Thread}

-- the number of the thread that is made next; each post that was sent, with its sender and its target; the pool of
-- each thread that was made as a worker; the thread that last named a procedure for errors
pub record Knowledge : Type 0 where
  pub next : ℕ
  pub posts : List Post
  pub workers : List Worker
  pub reporter : Option ℕ

-- before the first step there is the first thread alone
abbrev pub nothing_known : Knowledge
nothing_known = record { next = 2; posts = []; workers = []; reporter = None }

-- thread::send: the post that it makes
abbrev pub post_to : (sender number : ℕ) → Option ℕ → Option Post
post_to sender number None = None
post_to sender number (Some target) = Some (record { number = number; sender = sender; target = target })

abbrev pub post_made : (sender : ℕ) → (id : List ℕ) → Reply → Option Post
post_made sender id (reply.Posted number) = post_to sender number (id_named Thread id)
post_made sender id answer = None

abbrev pub post_of : (sender : ℕ) → Request → Reply → Option Post
post_of sender (ask.Send id script mode variable head) answer = post_made sender id answer
post_of sender request answer = None

-- tpool::create, tpool::post: the pool whose workers are made
abbrev pub pool_answered : Reply → Option (List ℕ)
pool_answered (reply.Value id) = Some id
pool_answered answer = None

abbrev pub pool_of_call : PoolCall → Reply → Option (List ℕ)
pool_of_call (pool.Create least most init exit) answer = pool_answered answer
pool_of_call (pool.Post id script detached) answer = Some id
pool_of_call call answer = None

abbrev pub pool_grown : Request → Reply → Option (List ℕ)
pool_grown (ask.Pool call) answer = pool_of_call call answer
pool_grown request answer = None

-- so many workers of a pool, from this number on
abbrev pub workers_from : (id : List ℕ) → (first count : ℕ) → List Worker
workers_from id first zero = []
workers_from id first (suc count) =
    workers_from id first count ++ record { thread = first + count; pool = id } ∷ []

abbrev pub workers_of : Option (List ℕ) → (first count : ℕ) → List Worker
workers_of None first count = []
workers_of (Some id) first count = workers_from id first count

-- thread::errorproc with a name
abbrev pub named_by : (thread : ℕ) → Option (List ℕ) → Option ℕ → Option ℕ
named_by thread (Some (letter ∷ name)) before = Some thread
named_by thread (Some []) before = before
named_by thread None before = before

abbrev pub reporter_after : (thread : ℕ) → Request → Option ℕ → Option ℕ
reporter_after thread (ask.ErrorProc name) before = named_by thread name before
reporter_after thread request before = before

abbrev pub after_done : Knowledge → Step → Knowledge
after_done known step = record {
  next = known.next + step.made;
  posts = known.posts ++ option_to_list (post_of step.thread step.request step.reply);
  workers =
      known.workers ++ workers_of (pool_grown step.request step.reply) known.next step.made;
  reporter = reporter_after step.thread step.request known.reporter;
}

abbrev pub after_step : Knowledge → Step → Knowledge
after_step known step = if is_done step.reply then after_done known step else known

abbrev pub after_entry : Knowledge → Entry → Knowledge
after_entry known Tick = known
after_entry known (Stepped step) = after_step known step
