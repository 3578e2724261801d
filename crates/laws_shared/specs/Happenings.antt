-- What happens when threads act: a table, from an action to its happenings (thread(n), tpool(n), chan(n)).
use Rattle.std.specs.Prelude.{ℕ, suc, ◌==◌, ◌&&◌, not, nat_lt, nat_eq, Bool, true, false, List, [], ◌∷◌, ◌++◌, codes}
use Rattle.std.specs.Prelude.{length, count_by, Option, Some, None, if◌then◌else◌}
use Rattle.std.specs.List.{filter, flat_map, range_with_len}
use Rattle.std.specs.Option.{option_eq}
use Rattle.tt_calls.specs.declared.event.Event.TheVariants as event
use Rattle.tt_calls.specs.declared.lock_call.LockCall.{LockCall}
use Rattle.tt_calls.specs.declared.lock_call.LockCall.TheVariants as lock
use Rattle.tt_calls.specs.declared.outcome.Outcome.{Outcome}
use Rattle.tt_calls.specs.declared.reply.Reply.{Reply}
use Rattle.tt_calls.specs.declared.reply.Reply.TheVariants as reply
use Rattle.tt_calls.specs.declared.request.Mode.{Mode}
use Rattle.tt_calls.specs.declared.request.Mode.TheVariants as mode
use Rattle.tt_calls.specs.declared.request.Request.{Request}
use Rattle.tt_calls.specs.declared.request.Request.TheVariants as ask
use Rattle.tt_chans.specs.Channels.{ChannelTable}
use Rattle.tt_chans.specs.declared.channel.Channel.{Channel}
use Rattle.tt_chans.specs.declared.channel.Owner as owners
use Rattle.tt_chans.specs.declared.channel.Owner.TheVariants.{Thread, Detached, Moving}
use Rattle.laws_shared.specs.Actions.{Action, Moment, action_result, moments}
use Rattle.laws_shared.specs.Owners.{owner_at}
use Rattle.tt_locks.specs.Table.{LockTable, lock_of}
use Rattle.tt_locks.specs.declared.lock.Lock.{Lock}
use Rattle.tt_shared.specs.Ends.{hears}
use Rattle.tt_shared.specs.Mail.{is_owed, variable_post}
use Rattle.tt_shared.specs.Sends.{is_due, is_linked_row, procedure_in_use}
use Rattle.tt_shared.specs.State.{State}
use Rattle.tt_shared.specs.declared.posts.VariablePost.{VariablePost}
use Rattle.tt_shared.specs.declared.reports.ErrorProcedure.{ErrorProcedure}
use Rattle.tt_slots.specs.Waiting.{slot_of}
use Rattle.tt_slots.specs.declared.slot.Slot.{Slot}
use Rattle.tt_threads.specs.Rows.{is_living, linked_thread, row_of}
use Rattle.tt_threads.specs.declared.row.Row.{Row}

-- who gets the answer of a post: nobody, its sender, who waits, or a variable of its sender
pub data Recipient : Type 0 where
  Nobody Waiting Variable : Recipient

pub data Happening : Type 0 where
  -- script n was put on the queue of a thread, at its head or at its tail
  Posted : (n from to : ℕ) → Recipient → (head : Bool) → Happening
  -- its target, thread t, took it
  Began : (n t : ℕ) → Happening
  -- its target has handed over what it came to, or has ended before
  Finished : (n : ℕ) → Outcome → Happening
  Died : (n : ℕ) → Happening
  -- its sender, thread t, got the answer, or a variable of the sender is to be set to it
  Got : (n t : ℕ) → Reply → Happening
  Set : (n t : ℕ) → (value : List ℕ) → Happening
  -- a thread has a hold of a lock more, or one less
  GetsHold Frees : (lock : List ℕ) → (t : ℕ) → Happening
  -- a channel has another owner: a thread, nobody, or it is on its way
  Owner : (channel : List ℕ) → owners.Owner → Happening

-- ---- sends ----

abbrev pub recipient_of : Mode → (variable : Option (List ℕ)) → Recipient
recipient_of mode.Waits variable = Waiting
recipient_of mode.Later None = Nobody
recipient_of mode.Later (Some name) = Variable

abbrev pub send_happenings : ℕ → (target : Option ℕ) → Recipient → (head : Bool) → Reply → List Happening
send_happenings t (Some target) recipient head (reply.Posted n) = Posted n t target recipient head ∷ []
send_happenings t target recipient head answered = []

abbrev pub report_happenings : State → ℕ → Option ErrorProcedure → List Happening
report_happenings state t None = []
report_happenings state t (Some procedure) = Posted state.posts.next t procedure.thread Nobody false ∷ []

-- thread::broadcast: to each linked thread but oneself, by number
abbrev pub others : State → ℕ → List ℕ
others state t =
    filter
    (λ number. not (number == t) && is_linked_row (row_of state.rows number))
    (range_with_len 1 (length state.rows))

abbrev pub posts_from : (n t : ℕ) → (targets : List ℕ) → List Happening
posts_from n t [] = []
posts_from n t (target ∷ targets) = Posted n t target Nobody false ∷ posts_from (suc n) t targets

-- ---- events and answers ----

abbrev pub begin_happenings : (t : ℕ) → Reply → List Happening
begin_happenings t (reply.Event (event.Script n script answer plain)) = Began n t ∷ []
begin_happenings t answered = []

abbrev pub got : (t n : ℕ) → Reply → List Happening
got t n reply.Died = Got n t reply.Died ∷ []
got t n (reply.Answer outcome) = Got n t (reply.Answer outcome) ∷ []
got t n answered = []

-- the variable of the sender, if that has not ended
abbrev pub variable_happenings : List Row → (n : ℕ) → (value : List ℕ) → Option VariablePost → List Happening
variable_happenings rows n value None = []
variable_happenings rows n value (Some post) = if is_living rows post.sender then Set n post.sender value ∷ [] else []

abbrev pub slot_happenings : State → (n : ℕ) → (value : List ℕ) → Option Slot → List Happening
slot_happenings state n value None = variable_happenings state.rows n value (variable_post state.posts n)
slot_happenings state n value (Some slot) = []

abbrev pub answer_happenings : State → (n : ℕ) → Outcome → Reply → List Happening
answer_happenings state n outcome (reply.Served stops) =
    Finished n outcome ∷ slot_happenings state n outcome.value (slot_of state.posts.slots n)
answer_happenings state n outcome answered = []

-- ---- the end of a thread ----

-- the posts that it leaves unanswered
abbrev pub slot_died : (t : ℕ) → (ℕ × Slot) → List Happening
slot_died t entry = if is_due t entry.1 then Died entry.0 ∷ [] else []

abbrev pub post_died : (t : ℕ) → (ℕ × VariablePost) → List Happening
post_died t entry = if is_owed t entry.1 then Died entry.0 ∷ [] else []

abbrev pub post_set : List Row → (t : ℕ) → (ℕ × VariablePost) → List Happening
post_set rows t entry =
    if hears rows t entry.1 then Set entry.0 entry.1.sender (codes "target thread died") ∷ [] else []

abbrev pub deaths : State → (t : ℕ) → List Happening
deaths state t =
    flat_map (slot_died t) state.posts.slots.open_slots
    ++ (flat_map (post_died t) state.posts.variables ++ flat_map (post_set state.rows t) state.posts.variables)

-- ---- locks ----

-- the lock whose holders a call can change
abbrev pub lock_named : LockCall → Option (List ℕ)
lock_named (lock.Lock text) = Some text
lock_named (lock.ReadLock text) = Some text
lock_named (lock.WriteLock text) = Some text
lock_named (lock.Unlock family text) = Some text
lock_named (lock.CondWait condition mutex after) = Some mutex
lock_named (lock.CondTake condition mutex) = Some mutex
lock_named call = None

abbrev pub holders_in : Option Lock → List ℕ
holders_in None = []
holders_in (Some one) = one.holders

-- how many holds of a lock a thread has
abbrev pub holds_of : LockTable → (text : List ℕ) → (t : ℕ) → ℕ
holds_of table text t = count_by (λ holder. holder == t) (holders_in (lock_of table text))

abbrev pub hold_changed : (text : List ℕ) → (t old new : ℕ) → List Happening
hold_changed text t old new =
    if nat_lt old new then GetsHold text t ∷ [] else
    if nat_lt new old then Frees text t ∷ [] else []

abbrev pub holds_changed : (old new : LockTable) → (t : ℕ) → Option (List ℕ) → List Happening
holds_changed old new t None = []
holds_changed old new t (Some text) = hold_changed text t (holds_of old text t) (holds_of new text t)

-- ---- channels ----

abbrev pub is_same_owner : (one other : owners.Owner) → Bool
is_same_owner (Thread one) (Thread other) = one == other
is_same_owner Detached Detached = true
is_same_owner (Moving from to) (Moving source target) = option_eq nat_eq from source && to == target
is_same_owner one other = false

abbrev pub is_owner : Option owners.Owner → owners.Owner → Bool
is_owner None owner = false
is_owner (Some one) owner = is_same_owner one owner

abbrev pub owner_changed : (old : ChannelTable) → (List ℕ × Channel) → List Happening
owner_changed old entry =
    if is_owner (owner_at old entry.0) entry.1.owner then [] else Owner entry.0 entry.1.owner ∷ []

abbrev pub owners_changed : (old new : ChannelTable) → List Happening
owners_changed old new = flat_map (owner_changed old) new.channels

-- ---- all actions ----

-- the table, but for owners: a line for each request by which something happens
abbrev pub happens : (old new : State) → (t : ℕ) → Request → Reply → List Happening
happens old new t (ask.Send text script mode variable head) answered =
    send_happenings t (linked_thread old.rows text) (recipient_of mode variable) head answered
happens old new t (ask.Report trace plain) answered =
    report_happenings old t (procedure_in_use old plain old.error_procedure)
happens old new t (ask.Broadcast script) answered = posts_from old.posts.next t (others old t)
happens old new t ask.Take answered = begin_happenings t answered
happens old new t ask.TakeReady answered = begin_happenings t answered
happens old new t (ask.Pool call) answered = begin_happenings t answered
happens old new t (ask.Deliver n outcome) answered = answer_happenings old n outcome answered
happens old new t (ask.Await n) answered = got t n answered
happens old new t (ask.Lock call) answered = holds_changed old.locks new.locks t (lock_named call)
happens old new t (ask.End code) answered = deaths old t
happens old new t request answered = []

-- what happened by an action
abbrev pub happenings_by : Moment → List Happening
happenings_by moment =
    let old = moment.before in
    let done = action_result old moment.action in
    happens old done.state moment.action.thread moment.action.request done.gives.reply
    ++ owners_changed old.channels done.state.channels

-- what happened by a list of actions, in order
abbrev pub happenings : State → List Action → List Happening
happenings state actions = flat_map happenings_by (moments state actions)
