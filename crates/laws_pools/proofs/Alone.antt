-- Which requests leave the pools alone: all but the calls on them and the end of a thread.
use Rattle.std.proofs.Common.{◌≡◌, ◌∙◌, ℕ, zero, suc, Bool, true, false, if◌then◌else◌, List, Option, Some, None, refl}
use Rattle.tt_calls.specs.declared.chan_call.ChanCall.{ChanCall}
use Rattle.tt_calls.specs.declared.chan_call.ChanCall.TheVariants as chan
use Rattle.tt_calls.specs.declared.event.Event.{Event}
use Rattle.tt_calls.specs.declared.event.Event.TheVariants as event
use Rattle.tt_calls.specs.declared.outcome.Outcome.{Outcome}
use Rattle.tt_calls.specs.declared.reply.Reply.{Reply}
use Rattle.tt_calls.specs.declared.reply.Reply.TheVariants as reply
use Rattle.tt_calls.specs.declared.request.Mode.{Mode}
use Rattle.tt_calls.specs.declared.request.Mode.TheVariants.{Waits, Later}
use Rattle.tt_calls.specs.declared.request.Request.{Request}
use Rattle.tt_calls.specs.declared.request.Request.TheVariants as ask
use Rattle.tt_calls.specs.declared.start.Start.{Start}
use Rattle.tt_pools.specs.Pools.{PoolTable}
use Rattle.tt_shared.specs.Acts.{act, creates, has_newline, moves, reads, starts, stops_unheld, with_workers}
use Rattle.tt_shared.specs.Mail.{first_of, variable_post}
use Rattle.tt_shared.specs.Sends.{awaits_at, broadcasts_to, come, delivers_at, delivers_value, is_asked, names_procedure, procedure_in_use, reports_to, sends}
use Rattle.tt_shared.specs.Sends.{sends_linked, sends_named, sets, takes, takes_first}
use Rattle.tt_shared.specs.State.{Acted, State, with_thread}
use Rattle.tt_shared.specs.declared.applied.Line.{Line}
use Rattle.tt_shared.specs.declared.applied.Line.TheVariants as line
use Rattle.tt_shared.specs.declared.posts.VariablePost.{VariablePost}
use Rattle.tt_shared.specs.declared.reports.ErrorProcedure.{ErrorProcedure}
use Rattle.tt_slots.specs.Waiting.{slot_of}
use Rattle.tt_slots.specs.declared.slot.Slot.{Slot}
use Rattle.tt_threads.specs.Requests as threads
use Rattle.tt_threads.specs.Rows.{linked_thread, new_row}
use Rattle.tt_threads.specs.declared.row.Row.{Row}

by_if : (b : Bool) (one other : Acted) (kept : PoolTable) → one.state.pools ≡ kept → other.state.pools ≡ kept →
    (if b then one else other).state.pools ≡ kept
by_if true one other kept first second = first
by_if false one other kept first second = second

either : (b : Bool) (one other : State) (kept : PoolTable) → one.pools ≡ kept → other.pools ≡ kept → (if b then one else other).pools ≡ kept
either true one other kept first second = first
either false one other kept first second = second

-- ---- streams and threads ----

by_reads : (state : State) (line : Line) → (reads state line).state.pools ≡ state.pools
by_reads state line.NotRead = refl
by_reads state (line.Read text) = by_if (has_newline text) _ _ _ refl refl
by_reads state line.End = refl
by_reads state line.TooLong = refl

by_thread : (state : State) (row : Row) → (with_thread state row).pools ≡ state.pools
by_thread state row = either _ _ _ _ refl refl

by_creates : (state : State) (joinable preserved : Bool) (script : List ℕ) → (creates state joinable preserved script).state.pools ≡ state.pools
by_creates state joinable preserved script = by_if _ _ _ _ (by_thread state _) refl

by_stops : (state : State) (number : Option ℕ) → (stops_unheld state number).pools ≡ state.pools
by_stops state None = refl
by_stops state (Some number) = either _ _ _ _ refl refl

by_names : (state : State) (t : ℕ) (name : Option (List ℕ)) → (names_procedure state t name).state.pools ≡ state.pools
by_names state t None = refl
by_names state t (Some name) = refl

by_workers : (n : ℕ) (start : Start) (state : State) → (with_workers n start state).pools ≡ state.pools
by_workers zero start state = refl
by_workers (suc n) start state = by_thread (with_workers n start state) (new_row start false false) ∙ by_workers n start state

pub by_starts : (state : State) (n : ℕ) (worker : Option Start) → (starts state n worker).pools ≡ state.pools
by_starts state n None = refl
by_starts state n (Some worker) = by_workers n worker state

-- ---- sends ----

by_linked : (state : State) (t target : ℕ) (script : List ℕ) (mode : Mode) (variable : Option (List ℕ)) (head : Bool) →
    (sends_linked state t target script mode variable head).state.pools ≡ state.pools
by_linked state t target script Waits variable head = by_if _ _ _ _ refl refl
by_linked state t target script Later variable head = refl

by_named : (state : State) (t : ℕ) (text script : List ℕ) (mode : Mode) (variable : Option (List ℕ)) (head : Bool) (target : Option ℕ) →
    (sends_named state t text script mode variable head target).state.pools ≡ state.pools
by_named state t text script mode variable head None = refl
by_named state t text script mode variable head (Some target) = by_linked state t target script mode variable head

by_sends : (state : State) (t : ℕ) (text script : List ℕ) (mode : Mode) (variable : Option (List ℕ)) (head : Bool) →
    (sends state t text script mode variable head).state.pools ≡ state.pools
by_sends state t text script mode variable head =
    by_if (is_asked mode variable) _ _ _ (by_named state t text script mode variable head (linked_thread state.rows text)) refl

by_awaits : (state : State) (t n : ℕ) (found : Option Slot) → (awaits_at state t n found).state.pools ≡ state.pools
by_awaits state t n None = refl
by_awaits state t n (Some found) = by_if _ _ _ _ refl refl

by_sets : (state : State) (post : VariablePost) (value : List ℕ) → (sets state post value).pools ≡ state.pools
by_sets state post value = either _ _ _ _ refl refl

by_value : (state : State) (t n : ℕ) (outcome : Outcome) (found : Option VariablePost) →
    (delivers_value state t n outcome found).state.pools ≡ state.pools
by_value state t n outcome None = refl
by_value state t n outcome (Some post) = by_if _ _ _ _ (by_sets _ post outcome.value) refl

by_delivers : (state : State) (t n : ℕ) (outcome : Outcome) (found : Option Slot) → (delivers_at state t n outcome found).state.pools ≡ state.pools
by_delivers state t n outcome None = by_value state t n outcome (variable_post state.posts n)
by_delivers state t n outcome (Some found) = by_if _ _ _ _ refl refl

by_reports : (state : State) (t : ℕ) (trace : List ℕ) (procedure : Option ErrorProcedure) → (reports_to state t trace procedure).state.pools ≡ state.pools
by_reports state t trace None = refl
by_reports state t trace (Some procedure) = refl

by_broadcasts : (count t : ℕ) (script : List ℕ) (state : State) → (broadcasts_to count t script state).pools ≡ state.pools
by_broadcasts zero t script state = refl
by_broadcasts (suc n) t script state =
    let before = by_broadcasts n t script state in
    either _ _ _ _ before before

-- ---- events and channels ----

-- who takes an event is answered that, or that there is none
pub data TakesEvent : Reply → Type 0 where
  some : (taken : Event) → TakesEvent (reply.Event taken)
  none : TakesEvent reply.NoEvent

by_come : (state : State) (t : ℕ) (taken : Event) → (come state t taken).pools ≡ state.pools
by_come state t (event.Moved channel) = refl
by_come state t taken = refl

by_first : (state : State) (t : ℕ) (found : Option Event) → (takes_first state t found).state.pools ≡ state.pools
by_first state t None = refl
by_first state t (Some taken) = by_come _ t taken

pub by_takes : (state : State) (t : ℕ) → (takes state t).state.pools ≡ state.pools
by_takes state t = by_first state t (first_of state.queues t)

pub takes_event : (state : State) (t : ℕ) → TakesEvent (takes state t).gives.reply
takes_event state t = go (first_of state.queues t)
  where
    go : (found : Option Event) → TakesEvent (takes_first state t found).gives.reply
    go None = none
    go (Some taken) = some taken

by_moves : (state : State) (call : ChanCall) (target : Option ℕ) (told : Reply) → (moves state call target told).pools ≡ state.pools
by_moves state (chan.Transfer text channel) (Some target) reply.Go = refl
by_moves state call target told = refl

-- ---- all other requests ----

abbrev pub is_of_pools : Request → Bool
is_of_pools (ask.Pool call) = true
is_of_pools (ask.End code) = true
is_of_pools request = false

pub alone : (state : State) (t : ℕ) (request : Request) (line : Line) → is_of_pools request ≡ false → (act state t request line).state.pools ≡ state.pools
alone state t (ask.WriteOut text) line is = refl
alone state t (ask.WriteErr text) line is = refl
alone state t ask.ReadLine line is = by_reads state line
alone state t ask.StdinEof line is = refl
alone state t (ask.Create joinable preserved script) line is = by_creates state joinable preserved script
alone state t (ask.Release text) line is = by_stops _ (threads.thread_named state.rows t text)
alone state t (ask.ErrorProc name) line is = by_names state t name
alone state t (ask.Send text script mode variable head) line is = by_sends state t text script mode variable head
alone state t (ask.Await n) line is = by_awaits state t n (slot_of state.posts.slots n)
alone state t ask.Take line is = by_takes state t
alone state t ask.TakeReady line is = by_takes state t
alone state t (ask.Deliver n outcome) line is = by_delivers state t n outcome (slot_of state.posts.slots n)
alone state t (ask.Report trace plain) line is = by_reports state t trace (procedure_in_use state plain state.error_procedure)
alone state t (ask.Broadcast script) line is = by_broadcasts _ t script state
alone state t (ask.Tsv call) line is = refl
alone state t (ask.Lock call) line is = refl
alone state t (ask.Pool call) line is = absurd (cc is)
alone state t (ask.Chan call) line is = by_moves _ call _ _
alone state t (ask.End code) line is = absurd (cc is)
alone state t request line is = refl
