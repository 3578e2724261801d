-- When a request can be answered: a table, a line for each that may have to wait (thread(n), tsv(n), tpool(n),
-- chan(n)).
use Rattle.std.specs.Prelude.{ℕ, ◌==◌, ◌&&◌, ◌||◌, not, nat_lt, Bool, true, false, Option, Some, None, is_some}
use Rattle.tt_calls.specs.declared.pool_call.PoolCall.{PoolCall}
use Rattle.tt_calls.specs.declared.pool_call.PoolCall.TheVariants as pool
use Rattle.tt_calls.specs.declared.request.Mode.{Mode}
use Rattle.tt_calls.specs.declared.request.Mode.TheVariants.{Waits, Later}
use Rattle.tt_calls.specs.declared.request.Request.{Request}
use Rattle.tt_calls.specs.declared.request.Request.TheVariants as ask
use Rattle.tt_chans.specs.Calls as channels
use Rattle.tt_locks.specs.Calls as locks
use Rattle.tt_pools.specs.Calls as pools
use Rattle.tt_shared.specs.Mail.{first_of, scripts_of}
use Rattle.tt_shared.specs.State.{State, is_marked}
use Rattle.tt_slots.specs.Waiting.{is_waiting, slot_of}
use Rattle.tt_slots.specs.declared.slot.Slot.{Slot}
use Rattle.tt_threads.specs.Rows.{is_living, linked_thread, row_of}
use Rattle.tt_threads.specs.declared.row.Row.{Row}
use Rattle.tt_tsv.specs.Calls as arrays

-- the thread's queue has an event
abbrev pub has_event : State → ℕ → Bool
has_event state t = is_some (first_of state.queues t)

-- the event mark of a thread is above the scripts that wait in its queue, or is 0
abbrev pub is_below_mark : (scripts : ℕ) → Option Row → Bool
is_below_mark scripts None = true
is_below_mark scripts (Some row) = row.eventmark == 0 || nat_lt scripts row.eventmark

-- a send that is not waited for waits at the event mark of another linked thread (thread::configure -eventmark)
abbrev pub takes_more : State → (t target : ℕ) → Bool
takes_more state t target = target == t || is_below_mark (scripts_of state.queues target) (row_of state.rows target)

abbrev pub can_send_to : State → ℕ → (target : Option ℕ) → Bool
can_send_to state t None = true
can_send_to state t (Some target) = takes_more state t target

abbrev pub can_send : State → ℕ → Mode → (target : Option ℕ) → Bool
can_send state t Waits target = true
can_send state t Later target = can_send_to state t target

-- the thread's own slot waits
abbrev pub is_own_waiting : ℕ → Option Slot → Bool
is_own_waiting t None = false
is_own_waiting t (Some slot) = slot.sender == t && is_waiting slot.state

-- of the calls on pools one serves events while it waits (tpool::wait)
abbrev pub is_look : PoolCall → Bool
is_look (pool.Look id jobs) = true
is_look call = false

abbrev pub can_pool : State → ℕ → PoolCall → Bool
can_pool state t call =
    not (pools.waits state.pools (is_marked state t) call) || is_look call && has_event state t

-- the table: all others are always enabled
abbrev pub enabled : State → ℕ → Request → Bool
enabled state t (ask.AwaitEnd thread) = not (is_living state.rows thread)
enabled state t (ask.Send id script mode variable head) = can_send state t mode (linked_thread state.rows id)
enabled state t (ask.Await n) = not (is_own_waiting t (slot_of state.posts.slots n))
enabled state t ask.Take = has_event state t
enabled state t (ask.Tsv call) = not (arrays.waits state.arrays t call)
enabled state t (ask.Lock call) = not (locks.waits state.locks t call)
enabled state t (ask.Pool call) = can_pool state t call
enabled state t (ask.Chan call) = not (channels.waits state.channels t call)
enabled state t request = true
