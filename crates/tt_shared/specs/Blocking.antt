-- Whom a thread waits for while its request can't be answered: a table, a line for each request that waits for somebody
-- (thread(n), tsv(n), chan(n)).
use Rattle.std.specs.Prelude.{ℕ, ◌&&◌, List, [], ◌∷◌, length, Bool, Option, Some, None, if◌then◌else◌, option_to_list}
use Rattle.std.specs.List.{filter, range_with_len}
use Rattle.tt_calls.specs.declared.request.Request.{Request}
use Rattle.tt_calls.specs.declared.request.Request.TheVariants as ask
use Rattle.tt_chans.specs.Blocking as channels
use Rattle.tt_locks.specs.Blocking as locks
use Rattle.tt_locks.specs.Lock.{is_among}
use Rattle.tt_shared.specs.Enabled.{enabled}
use Rattle.tt_shared.specs.State.{State}
use Rattle.tt_slots.specs.Waiting.{slot_of}
use Rattle.tt_slots.specs.declared.slot.Slot.{Slot}
use Rattle.tt_threads.specs.Rows.{is_living}
use Rattle.tt_tsv.specs.Blocking as arrays

-- the thread that is to answer by a slot
abbrev pub target_in : Option Slot → Option ℕ
target_in None = None
target_in (Some slot) = Some slot.target

-- the table: all others wait for nobody
abbrev pub waited_for : State → ℕ → Request → List ℕ
waited_for state t (ask.AwaitEnd thread) = thread ∷ []
waited_for state t (ask.Await n) = option_to_list (target_in (slot_of state.posts.slots n))
waited_for state t (ask.Tsv call) = option_to_list (arrays.holder state.arrays call)
waited_for state t (ask.Lock call) = locks.holders state.locks call
waited_for state t (ask.Chan call) = option_to_list (channels.blocker state.channels t call)
waited_for state t request = []

-- a thread lives and is among these
abbrev pub is_living_among : State → List ℕ → ℕ → Bool
is_living_among state threads u = is_living state.rows u && is_among threads u

-- those of them that live, by number, each once
abbrev pub living_among : State → List ℕ → List ℕ
living_among state threads = filter (is_living_among state threads) (range_with_len 1 (length state.rows))

-- the threads that a thread waits for, the living ones; none if its request can be answered
abbrev pub blockers : State → ℕ → Request → List ℕ
blockers state t request = if enabled state t request then [] else living_among state (waited_for state t request)
