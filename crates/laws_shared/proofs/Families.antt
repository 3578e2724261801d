-- Which requests leave the arrays, the locks and the channels alone: all but those of the family itself, and of channels
-- those that take an event and the end of a thread.
use Rattle.std.proofs.Common.{◌≡◌, ◌∙◌, ℕ, zero, suc, Bool, true, false, if◌then◌else◌, List, Option, Some, None, ap, refl}
use Rattle.tt_calls.specs.declared.chan_call.ChanCall.{ChanCall}
use Rattle.tt_calls.specs.declared.chan_call.ChanCall.TheVariants as chan
use Rattle.tt_calls.specs.declared.event.Event.{Event}
use Rattle.tt_calls.specs.declared.event.Event.TheVariants as event
use Rattle.tt_calls.specs.declared.outcome.Outcome.{Outcome}
use Rattle.tt_calls.specs.declared.reply.Reply.{Reply}
use Rattle.tt_calls.specs.declared.reply.Reply.TheVariants as reply
use Rattle.tt_calls.specs.declared.reply.Step.{Step}
use Rattle.tt_calls.specs.declared.reply.Step.TheVariants as step
use Rattle.tt_calls.specs.declared.request.Mode.{Mode}
use Rattle.tt_calls.specs.declared.request.Mode.TheVariants.{Waits, Later}
use Rattle.tt_calls.specs.declared.request.Request.{Request}
use Rattle.tt_calls.specs.declared.request.Request.TheVariants as ask
use Rattle.tt_calls.specs.declared.start.Start.{Start}
use Rattle.tt_chans.specs.Channels.{ChannelTable}
use Rattle.tt_locks.specs.Table.{LockTable}
use Rattle.tt_calls.specs.declared.pool_call.PoolCall.{PoolCall}
use Rattle.tt_pools.specs.Calls as pools
use Rattle.tt_pools.specs.declared.step.PoolStep.{PoolStep}
use Rattle.tt_shared.specs.Acts.{act, creates, gives_of, has_newline, moves, on_pools, pools_after, reads, starts, stops_unheld, with_workers}
use Rattle.tt_shared.specs.Sends.{awaits_at, broadcasts_to, come, delivers_at, delivers_value, is_asked}
use Rattle.tt_shared.specs.Sends.{names_procedure, procedure_in_use, reports_to, sends, sends_linked, sends_named, sets}
use Rattle.tt_shared.specs.Sends.{takes, takes_first}
use Rattle.tt_shared.specs.Mail.{first_of, variable_post}
use Rattle.tt_shared.specs.State.{Acted, State, is_marked, room, with_thread}
use Rattle.tt_shared.specs.declared.applied.Line.{Line}
use Rattle.tt_shared.specs.declared.applied.Line.TheVariants as line
use Rattle.tt_shared.specs.declared.posts.VariablePost.{VariablePost}
use Rattle.tt_shared.specs.declared.reports.ErrorProcedure.{ErrorProcedure}
use Rattle.tt_slots.specs.Waiting.{slot_of}
use Rattle.tt_slots.specs.declared.slot.Slot.{Slot}
use Rattle.tt_threads.specs.Requests as threads
use Rattle.tt_threads.specs.Rows.{linked_thread, new_row}
use Rattle.tt_threads.specs.declared.row.Row.{Row}
use Rattle.tt_tsv.specs.Arrays.{Table}

-- ---- the three families ----

abbrev pub Families : Type 0
Families = Table × LockTable × ChannelTable

abbrev pub families : State → Families
families state = (state.arrays, state.locks, state.channels)

by_if : (b : Bool) (one other : Acted) (kept : Families) → families one.state ≡ kept → families other.state ≡ kept →
    families (if b then one else other).state ≡ kept
by_if true one other kept first second = first
by_if false one other kept first second = second

either : (b : Bool) (one other : State) (kept : Families) → families one ≡ kept → families other ≡ kept → families (if b then one else other) ≡ kept
either true one other kept first second = first
either false one other kept first second = second

-- ---- streams and threads ----

by_reads : (state : State) (line : Line) → families (reads state line).state ≡ families state
by_reads state line.NotRead = refl
by_reads state (line.Read text) = by_if (has_newline text) _ _ _ refl refl
by_reads state line.End = refl
by_reads state line.TooLong = refl

by_thread : (state : State) (row : Row) → families (with_thread state row) ≡ families state
by_thread state row = either _ _ _ _ refl refl

by_creates : (state : State) (joinable preserved : Bool) (script : List ℕ) → families (creates state joinable preserved script).state ≡ families state
by_creates state joinable preserved script = by_if _ _ _ _ (by_thread state _) refl

by_stops : (state : State) (number : Option ℕ) → families (stops_unheld state number) ≡ families state
by_stops state None = refl
by_stops state (Some number) = either _ _ _ _ refl refl

by_names : (state : State) (t : ℕ) (name : Option (List ℕ)) → families (names_procedure state t name).state ≡ families state
by_names state t None = refl
by_names state t (Some name) = refl

-- ---- sends ----

by_linked : (state : State) (t target : ℕ) (script : List ℕ) (mode : Mode) (variable : Option (List ℕ)) (head : Bool) →
    families (sends_linked state t target script mode variable head).state ≡ families state
by_linked state t target script Waits variable head = by_if _ _ _ _ refl refl
by_linked state t target script Later variable head = refl

by_named : (state : State) (t : ℕ) (text script : List ℕ) (mode : Mode) (variable : Option (List ℕ)) (head : Bool) (target : Option ℕ) →
    families (sends_named state t text script mode variable head target).state ≡ families state
by_named state t text script mode variable head None = refl
by_named state t text script mode variable head (Some target) = by_linked state t target script mode variable head

by_sends : (state : State) (t : ℕ) (text script : List ℕ) (mode : Mode) (variable : Option (List ℕ)) (head : Bool) →
    families (sends state t text script mode variable head).state ≡ families state
by_sends state t text script mode variable head =
    by_if (is_asked mode variable) _ _ _ (by_named state t text script mode variable head (linked_thread state.rows text)) refl

by_awaits : (state : State) (t n : ℕ) (found : Option Slot) → families (awaits_at state t n found).state ≡ families state
by_awaits state t n None = refl
by_awaits state t n (Some found) = by_if _ _ _ _ refl refl

by_sets : (state : State) (post : VariablePost) (value : List ℕ) → families (sets state post value) ≡ families state
by_sets state post value = either _ _ _ _ refl refl

by_value : (state : State) (t n : ℕ) (outcome : Outcome) (found : Option VariablePost) →
    families (delivers_value state t n outcome found).state ≡ families state
by_value state t n outcome None = refl
by_value state t n outcome (Some post) = by_if _ _ _ _ (by_sets _ post outcome.value) refl

by_delivers : (state : State) (t n : ℕ) (outcome : Outcome) (found : Option Slot) → families (delivers_at state t n outcome found).state ≡ families state
by_delivers state t n outcome None = by_value state t n outcome (variable_post state.posts n)
by_delivers state t n outcome (Some found) = by_if _ _ _ _ refl refl

by_reports : (state : State) (t : ℕ) (trace : List ℕ) (procedure : Option ErrorProcedure) → families (reports_to state t trace procedure).state ≡ families state
by_reports state t trace None = refl
by_reports state t trace (Some procedure) = refl

by_broadcasts : (count t : ℕ) (script : List ℕ) (state : State) → families (broadcasts_to count t script state) ≡ families state
by_broadcasts zero t script state = refl
by_broadcasts (suc n) t script state =
    let before = by_broadcasts n t script state in
    either _ _ _ _ before before

-- ---- events ----

-- a channel that comes is changed
abbrev pub Shelves : Type 0
Shelves = Table × LockTable

abbrev pub shelves : State → Shelves
shelves state = (state.arrays, state.locks)

by_come : (state : State) (t : ℕ) (event : Event) → shelves (come state t event) ≡ shelves state
by_come state t (event.Moved channel) = refl
by_come state t event = refl

by_first : (state : State) (t : ℕ) (found : Option Event) → shelves (takes_first state t found).state ≡ shelves state
by_first state t None = refl
by_first state t (Some event) = by_come _ t event

by_takes : (state : State) (t : ℕ) → shelves (takes state t).state ≡ shelves state
by_takes state t = by_first state t (first_of state.queues t)

-- ---- pools ----

pub by_workers : (n : ℕ) (start : Start) (state : State) → families (with_workers n start state) ≡ families state
by_workers zero start state = refl
by_workers (suc n) start state = by_thread (with_workers n start state) (new_row start false false) ∙ by_workers n start state

pub by_starts : (state : State) (n : ℕ) (worker : Option Start) → families (starts state n worker) ≡ families state
by_starts state n None = refl
by_starts state n (Some worker) = by_workers n worker state

by_gives : (state : State) (t : ℕ) (gives : PoolStep) → shelves (gives_of state t gives).state ≡ shelves state
by_gives state t gives = go gives.step refl
  where
    go : (one : Step) → gives.step ≡ one → shelves (gives_of state t gives).state ≡ shelves state
    go step.Wait is = rw is (by_takes state t)
    go (step.Reply told) is = rw is (ap (λ (kept : Families). (kept.0, kept.1)) (by_starts state gives.start gives.worker))

by_answered : (state : State) (t : ℕ) (answered : pools.Answered) → shelves (pools_after state t answered).state ≡ shelves state
by_answered state t answered = by_gives (record state { pools = answered.table }) t answered.gives

by_pools : (state : State) (t : ℕ) (call : PoolCall) → shelves (on_pools state t call).state ≡ shelves state
by_pools state t call = by_answered state t (pools.act_or_wait state.pools t (room state) (is_marked state t) call)

-- ---- channels ----

pub by_moves : (state : State) (call : ChanCall) (target : Option ℕ) (told : Reply) → families (moves state call target told) ≡ families state
by_moves state (chan.Transfer text channel) (Some target) reply.Go = refl
by_moves state call target told = refl

-- ---- all requests ----

-- the requests that touch no family
abbrev pub is_quiet : Request → Bool
is_quiet (ask.Tsv call) = false
is_quiet (ask.Lock call) = false
is_quiet (ask.Pool call) = false
is_quiet (ask.Chan call) = false
is_quiet ask.Take = false
is_quiet ask.TakeReady = false
is_quiet (ask.End code) = false
is_quiet request = true

pub quiet : (state : State) (t : ℕ) (request : Request) (line : Line) → is_quiet request ≡ true → families (act state t request line).state ≡ families state
quiet state t (ask.WriteOut text) line is = refl
quiet state t (ask.WriteErr text) line is = refl
quiet state t ask.ReadLine line is = by_reads state line
quiet state t ask.StdinEof line is = refl
quiet state t (ask.Create joinable preserved script) line is = by_creates state joinable preserved script
quiet state t (ask.Release text) line is = by_stops _ (threads.thread_named state.rows t text)
quiet state t (ask.ErrorProc name) line is = by_names state t name
quiet state t (ask.Send text script mode variable head) line is = by_sends state t text script mode variable head
quiet state t (ask.Await n) line is = by_awaits state t n (slot_of state.posts.slots n)
quiet state t (ask.Deliver n outcome) line is = by_delivers state t n outcome (slot_of state.posts.slots n)
quiet state t (ask.Report trace plain) line is = by_reports state t trace (procedure_in_use state plain state.error_procedure)
quiet state t (ask.Broadcast script) line is = by_broadcasts _ t script state
quiet state t (ask.Tsv call) line is = absurd (cc is)
quiet state t (ask.Lock call) line is = absurd (cc is)
quiet state t (ask.Pool call) line is = absurd (cc is)
quiet state t (ask.Chan call) line is = absurd (cc is)
quiet state t ask.Take line is = absurd (cc is)
quiet state t ask.TakeReady line is = absurd (cc is)
quiet state t (ask.End code) line is = absurd (cc is)
quiet state t request line is = refl

-- all but those of shared variables leave the arrays
abbrev pub is_on_arrays : Request → Bool
is_on_arrays (ask.Tsv call) = true
is_on_arrays request = false

pub arrays_kept : (state : State) (t : ℕ) (request : Request) (line : Line) → is_on_arrays request ≡ false →
    (act state t request line).state.arrays ≡ state.arrays
arrays_kept state t (ask.Tsv call) line is = absurd (cc is)
arrays_kept state t (ask.Lock call) line is = refl
arrays_kept state t (ask.Pool call) line is = ap (λ (kept : Shelves). kept.0) (by_pools state t call)
arrays_kept state t (ask.Chan call) line is = ap (λ (kept : Families). kept.0) (by_moves _ call _ _)
arrays_kept state t ask.Take line is = ap (λ (kept : Shelves). kept.0) (by_takes state t)
arrays_kept state t ask.TakeReady line is = ap (λ (kept : Shelves). kept.0) (by_takes state t)
arrays_kept state t (ask.End code) line is = refl
arrays_kept state t request line is = ap (λ (kept : Families). kept.0) (quiet state t request line refl)

-- all but those of locks leave the locks
abbrev pub is_on_locks : Request → Bool
is_on_locks (ask.Lock call) = true
is_on_locks request = false

pub locks_kept : (state : State) (t : ℕ) (request : Request) (line : Line) → is_on_locks request ≡ false → (act state t request line).state.locks ≡ state.locks
locks_kept state t (ask.Lock call) line is = absurd (cc is)
locks_kept state t (ask.Tsv call) line is = refl
locks_kept state t (ask.Pool call) line is = ap (λ (kept : Shelves). kept.1) (by_pools state t call)
locks_kept state t (ask.Chan call) line is = ap (λ (kept : Families). kept.1) (by_moves _ call _ _)
locks_kept state t ask.Take line is = ap (λ (kept : Shelves). kept.1) (by_takes state t)
locks_kept state t ask.TakeReady line is = ap (λ (kept : Shelves). kept.1) (by_takes state t)
locks_kept state t (ask.End code) line is = refl
locks_kept state t request line is = ap (λ (kept : Families). kept.1) (quiet state t request line refl)
