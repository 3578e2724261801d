-- What the end of a thread does, and that of the run (thread(n), thread::exit; exit(n)).
use Rattle.std.specs.Prelude.{ℕ, ◌==◌, ◌&&◌, not, Bool, false, List, codes, Option, Some, None, if◌then◌else◌, ℤ, pos}
use Rattle.std.specs.Int.{int_rem_euclid}
use Rattle.std.specs.Int.RustNames.{unsigned_abs}
use Rattle.std.specs.List.{fold}
use Rattle.std.specs.Map.{values_of}
use Rattle.tt_calls.specs.declared.event.Event.{Event}
use Rattle.tt_calls.specs.declared.event.Event.TheVariants as event
use Rattle.tt_calls.specs.declared.reply.Reply.TheVariants.{Go}
use Rattle.tt_calls.specs.declared.start.Start.{Start}
use Rattle.tt_calls.specs.declared.start.Start.TheVariants.{Script, Worker}
use Rattle.tt_chans.specs.Channels as channels
use Rattle.tt_pools.specs.Calls as pools
use Rattle.tt_pools.specs.Pools.{PoolTable}
use Rattle.tt_shared.specs.Mail.{Queues, queues_without_events, posts_after, queues_with_event}
use Rattle.tt_shared.specs.State.{Acted, State, answers}
use Rattle.tt_shared.specs.declared.posts.VariablePost.{VariablePost}
use Rattle.tt_threads.specs.Rows.{is_living, row_of, with_end}
use Rattle.tt_threads.specs.declared.row.Row.{Row}

-- the thread owes the post an answer, and its sender is another thread that has not ended
abbrev pub hears : List Row → (t : ℕ) → VariablePost → Bool
hears rows t post = post.target == t && (not (post.sender == t) && is_living rows post.sender)

-- the variables of posts that the thread leaves unanswered are set, in the order of the posts
abbrev pub end_event : (name : List ℕ) → Event
end_event name = event.SetVar name (codes "target thread died")

abbrev pub with_died_event : List Row → (t : ℕ) → Queues → VariablePost → Queues
with_died_event rows t queues post =
    if hears rows t post
    then queues_with_event queues post.sender false (end_event post.name)
    else queues

abbrev pub tells_died : List Row → (t : ℕ) → List VariablePost → Queues → Queues
tells_died rows t posts queues = fold (with_died_event rows t) queues posts

-- the pool whose worker a thread is
abbrev pub pool_of_start : Start → Option (List ℕ)
pool_of_start (Script text) = None
pool_of_start (Worker pool init exit) = Some pool

abbrev pub pool_of_row : Option Row → Option (List ℕ)
pool_of_row None = None
pool_of_row (Some row) = pool_of_start row.start

-- a code is reported modulo 256
abbrev pub exit_code : ℤ → ℕ
exit_code code = unsigned_abs (int_rem_euclid code (pos 256))

-- the end of main is the end of the run
abbrev pub over_after : Option ℕ → ℕ → ℤ → Option ℕ
over_after over t code = if t == 1 then Some (exit_code code) else over

-- the pools after the end of a thread
abbrev pub pools_left : State → ℕ → PoolTable
pools_left state t = pools.table_after_end state.pools t (pool_of_row (row_of state.rows t))

-- The thread has ended with its code; whoever waits for an answer of it gets the answer that it died; its queue is
-- emptied; as a worker its job has failed; its channels are closed, and those that were on their way to it go back.
-- Locks and arrays that it holds stay held.
abbrev pub state_after_end : State → ℕ → ℤ → State
state_after_end state t code = record state {
  over = over_after state.over t code;
  rows = with_end state.rows t code;
  queues = queues_without_events (tells_died state.rows t (values_of state.posts.variables) state.queues) t;
  posts = posts_after state.posts t;
  pools = pools_left state t;
  channels = channels.table_after_end state.channels t;
}

abbrev pub ends : State → ℕ → ℤ → Acted
ends state t code = answers (state_after_end state t code) Go

-- the end of the run, whatever is left
abbrev pub exits : State → ℤ → Acted
exits state code = answers (record state { over = Some (exit_code code) }) Go
