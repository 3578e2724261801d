-- What the threads share, part by part, and what answering a request gives.
use Rattle.std.specs.Prelude.{ℕ, ◌-◌, Bool, true, false, List, [], ◌∷◌, ◌++◌, codes, Option, Some, None, if◌then◌else◌}
use Rattle.std.specs.Prelude.{nat_lt}
use Rattle.tt_calls.specs.declared.reply.Reply.{Reply}
use Rattle.tt_calls.specs.declared.reply.Reply.TheVariants.{Refused}
use Rattle.tt_calls.specs.declared.reply.Step.{Step}
use Rattle.tt_calls.specs.declared.reply.Step.TheVariants as step
use Rattle.tt_calls.specs.declared.start.Start.{Start}
use Rattle.tt_chans.specs.Channels.{ChannelTable, no_channels}
use Rattle.tt_locks.specs.Table.{LockTable, no_locks}
use Rattle.tt_pools.specs.Pools.{PoolTable, no_pools}
use Rattle.tt_shared.specs.Mail.{Posts, Queues, no_posts}
use Rattle.tt_shared.specs.declared.applied.Applied.{Applied}
use Rattle.tt_shared.specs.declared.reports.ErrorProcedure.{ErrorProcedure}
use Rattle.tt_threads.specs.Rows.{living, most_living, new_row, row_of}
use Rattle.tt_threads.specs.declared.row.Life.{Life}
use Rattle.tt_threads.specs.declared.row.Life.TheVariants.{Live, Marked, Ended}
use Rattle.tt_threads.specs.declared.row.Row.{Row}
use Rattle.tt_tsv.specs.Arrays.{Table}

-- What the threads share: the code of the ended run; the threads and their queues, by number from 1; the posts that
-- wait for an answer; arrays, locks, pools and channels; the procedure that errors are reported to; and whether the
-- end of standard input was met.
pub record State : Type 0 where
  pub over : Option ℕ
  pub rows : List Row
  pub queues : Queues
  pub posts : Posts
  pub arrays : Table
  pub locks : LockTable
  pub pools : PoolTable
  pub channels : ChannelTable
  pub error_procedure : Option ErrorProcedure
  pub input_ended : Bool

-- main alone, with nothing shared yet
abbrev pub start_state : Start → State
start_state main = record {
  over = None;
  rows = new_row main false false ∷ [];
  queues = [] ∷ [];
  posts = no_posts;
  arrays = [];
  locks = no_locks;
  pools = no_pools;
  channels = no_channels;
  error_procedure = None;
  input_ended = false;
}

-- ---- answers ----

-- the state after a request, and what answering it gives
pub record Acted : Type 0 where
  pub state : State
  pub gives : Applied

-- a reply, with nothing written and no thread made
abbrev pub answer : State → Reply → Applied
answer state reply = record { reply = reply; out = []; err = []; over = state.over; made = 0 }

abbrev pub answers : State → Reply → Acted
answers state reply = record { state = state; gives = answer state reply }

-- a request that is refused changes nothing
abbrev pub refuses : State → (message : List ℕ) → Acted
refuses state message = answers state (Refused message)

-- a request that no command makes
abbrev pub is_not_asked : State → Acted
is_not_asked state = refuses state []

abbrev pub no_thread : (text : List ℕ) → List ℕ
no_thread text = codes "thread \"" ++ (text ++ codes "\" does not exist")

abbrev pub truth : Bool → List ℕ
truth is = if is then codes "1" else codes "0"

-- the reply of a part of the state; one that waits has none
abbrev pub reply_of : Step → Reply
reply_of step.Wait = Refused []
reply_of (step.Reply reply) = reply

-- ---- threads ----

-- how many threads may still be made
abbrev pub room : State → ℕ
room state = most_living - living state.rows

abbrev pub is_marked_life : Life → Bool
is_marked_life Live = false
is_marked_life Marked = true
is_marked_life (Ended code) = false

abbrev pub is_marked_row : Option Row → Bool
is_marked_row None = false
is_marked_row (Some row) = is_marked_life row.life

-- a thread that was released, and is to stop
abbrev pub is_marked : State → ℕ → Bool
is_marked state t = is_marked_row (row_of state.rows t)

-- a thread more, with an empty queue, if there is room
abbrev pub with_thread : State → Row → State
with_thread state row =
    if nat_lt (living state.rows) most_living
    then record state { rows = state.rows ++ row ∷ []; queues = state.queues ++ [] ∷ [] }
    else state
