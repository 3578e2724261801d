-- What becomes of channels that are not closed (chan(n); thread(n), thread::transfer, thread::exit).
use Rattle.std.specs.Prelude.{◌≡◌, ℕ, Bool, false, IsTrue, List, [], bytes_eq, count_by, Option, Some, None, IfSome, ⊤}
use Rattle.tt_calls.specs.declared.event.Event.{Event}
use Rattle.tt_calls.specs.declared.event.Event.TheVariants as event
use Rattle.tt_chans.specs.declared.channel.Owner.{Owner}
use Rattle.tt_chans.specs.declared.channel.Owner.TheVariants.{Thread, Detached, Moving}
use Rattle.laws_shared.specs.Owners.{owner_at}
use Rattle.tt_shared.specs.Mail.{Queues, queue_of}
use Rattle.tt_shared.specs.State.{State}
use Rattle.tt_threads.specs.Rows.{is_living}

-- an event brings the channel
abbrev pub brings : (text : List ℕ) → Event → Bool
brings text (event.Moved channel) = bytes_eq channel text
brings text other = false

abbrev pub events_in : Option (List Event) → List Event
events_in None = []
events_in (Some events) = events

-- how many events in the queue of a thread bring it
abbrev pub arrivals : Queues → ℕ → (text : List ℕ) → ℕ
arrivals queues t text = count_by (brings text) (events_in (queue_of queues t))

-- A channel that is not closed is owned by a thread that lives, or nobody's; or it is on its way to a thread that
-- lives, and one event in the queue of that thread brings it.
abbrev pub IsKept : State → (text : List ℕ) → Owner → Type 0
IsKept state text (Thread t) = IsTrue (is_living state.rows t)
IsKept state text Detached = ⊤
IsKept state text (Moving from to) = IsTrue (is_living state.rows to) × (arrivals state.queues to text ≡ 1)

abbrev pub AreKept : State → Type 0
AreKept state = (text : List ℕ) → IfSome (owner_at state.channels text) (IsKept state text)
