-- What answering a request does: a table, a line for each (puts(n), gets(n), eof(n), thread(n), tsv(n), tpool(n),
-- chan(n)).
use Rattle.std.specs.Prelude.{ℕ, zero, suc, ◌-◌, ◌==◌, take, slice_get, Bool, true, false, List, codes, length, Option}
use Rattle.std.specs.Prelude.{Some, None, if◌then◌else◌, nat_lt, pos, negsuc}
use Rattle.tt_calls.specs.declared.chan_call.ChanCall.{ChanCall}
use Rattle.tt_calls.specs.declared.chan_call.ChanCall.TheVariants as chan
use Rattle.tt_calls.specs.declared.event.Event.TheVariants as event
use Rattle.tt_calls.specs.declared.lock_call.LockCall.{LockCall}
use Rattle.tt_calls.specs.declared.pool_call.PoolCall.{PoolCall}
use Rattle.tt_calls.specs.declared.reply.Reply.{Reply}
use Rattle.tt_calls.specs.declared.reply.Reply.TheVariants as reply
use Rattle.tt_calls.specs.declared.reply.Step.TheVariants as step
use Rattle.tt_calls.specs.declared.request.Request.{Request}
use Rattle.tt_calls.specs.declared.request.Request.TheVariants as ask
use Rattle.tt_calls.specs.declared.start.Start.{Start}
use Rattle.tt_calls.specs.declared.start.Start.TheVariants.{Script}
use Rattle.tt_calls.specs.declared.tsv_call.TsvCall.{TsvCall}
use Rattle.tt_chans.specs.Calls as channels
use Rattle.tt_ids.specs.Ids.{id}
use Rattle.tt_ids.specs.declared.id.IdKind.TheVariants.{Thread}
use Rattle.tt_locks.specs.Calls as locks
use Rattle.tt_pools.specs.Calls as pools
use Rattle.tt_pools.specs.declared.step.PoolStep.{PoolStep}
use Rattle.tt_shared.specs.Ends.{ends, exits}
use Rattle.tt_shared.specs.Sends.{awaits, broadcasts, delivers, state_with_event, names_procedure, reports, sends}
use Rattle.tt_shared.specs.Sends.{takes}
use Rattle.tt_shared.specs.State.{Acted, State, answer, answers, is_marked, is_not_asked, refuses, reply_of, room}
use Rattle.tt_shared.specs.State.{truth, with_thread}
use Rattle.tt_shared.specs.declared.applied.Line.{Line}
use Rattle.tt_shared.specs.declared.applied.Line.TheVariants as line
use Rattle.tt_threads.specs.Requests as threads
use Rattle.tt_threads.specs.Rows.{linked_thread, living, most_living, new_row, row_of}
use Rattle.tt_threads.specs.declared.row.Row.{Row}
use Rattle.tt_tsv.specs.Calls as arrays

-- ---- streams ----

abbrev pub writes_out : State → (text : List ℕ) → Acted
writes_out state text = record { state = state; gives = record (answer state reply.Go) { out = text } }

abbrev pub writes_err : State → (text : List ℕ) → Acted
writes_err state text = record { state = state; gives = record (answer state reply.Go) { err = text } }

-- the bytes of a line end in a newline, or else the end of standard input was met
abbrev pub is_newline : (last : Option ℕ) → Bool
is_newline None = false
is_newline (Some byte) = byte == 10

abbrev pub has_newline : (text : List ℕ) → Bool
has_newline text = is_newline (slice_get text (length text - 1))

abbrev pub reads_bytes : State → (text : List ℕ) → Acted
reads_bytes state text =
    if has_newline text
    then answers state (reply.Line (take (length text - 1) text))
    else answers (record state { input_ended = true }) (reply.Line text)

abbrev pub reads : State → Line → Acted
reads state line.NotRead = is_not_asked state
reads state (line.Read text) = reads_bytes state text
reads state line.End = answers (record state { input_ended = true }) reply.LineEnd
reads state line.TooLong = refuses state (codes "line too long")

-- ---- threads ----

-- thread::create
abbrev pub creates : State → (joinable preserved : Bool) → (script : List ℕ) → Acted
creates state joinable preserved script =
    if nat_lt (living state.rows) most_living
    then record {
      state = with_thread state (new_row (Script script) joinable preserved);
      gives = record (answer state (reply.Value (id Thread (suc (length state.rows))))) { made = 1 };
    }
    else refuses state (codes "too many threads")

-- what stands in the table of threads alone
abbrev pub in_rows : State → threads.Answered → Acted
in_rows state answered = answers (record state { rows = answered.rows }) answered.reply

abbrev pub asks_rows : State → ℕ → Request → Acted
asks_rows state t request = in_rows state (threads.act state.rows t request)

-- thread::release: a thread that nobody holds any more is asked to stop
abbrev pub is_unheld : Option Row → Bool
is_unheld None = false
is_unheld (Some row) = elim row.count [ pos n ↦ n == 0 | negsuc n ↦ true ]

abbrev pub stops_unheld : State → (number : Option ℕ) → State
stops_unheld state None = state
stops_unheld state (Some number) =
    if is_unheld (row_of state.rows number) then state_with_event state number false event.Stop else state

abbrev pub releases : State → ℕ → (text : List ℕ) → threads.Answered → Acted
releases state t text answered =
    answers (stops_unheld (record state { rows = answered.rows }) (threads.thread_named state.rows t text))
    answered.reply

abbrev pub asks_release : State → ℕ → (text : List ℕ) → Request → Acted
asks_release state t text request = releases state t text (threads.act state.rows t request)

-- ---- shared variables and locks ----

abbrev pub on_arrays : State → ℕ → TsvCall → Acted
on_arrays state t call =
    let answered = reply_of (arrays.step_after state.arrays t call) in
    answers (record state { arrays = arrays.table_after state.arrays t call }) answered

abbrev pub on_locks : State → ℕ → LockCall → Acted
on_locks state t call =
    let answered = reply_of (locks.step_after state.locks t call) in
    answers (record state { locks = locks.table_after state.locks t call }) answered

-- ---- pools ----

-- so many workers more
abbrev pub with_workers : ℕ → Start → State → State
with_workers zero start state = state
with_workers (suc n) start state = with_thread (with_workers n start state) (new_row start false false)

abbrev pub starts : State → (start : ℕ) → Option Start → State
starts state start None = state
starts state start (Some worker) = with_workers start worker state

-- a call that waits for a job that is done serves events meanwhile
abbrev pub gives_of : State → ℕ → PoolStep → Acted
gives_of state t gives = elim gives.step [
  | step.Wait ↦ takes state t
  | step.Reply answered ↦ record {
    state = starts state gives.start gives.worker;
    gives = record (answer state answered) { made = gives.start };
  }
]

abbrev pub pools_after : State → ℕ → pools.Answered → Acted
pools_after state t answered = gives_of (record state { pools = answered.table }) t answered.gives

abbrev pub on_pools : State → ℕ → PoolCall → Acted
on_pools state t call = pools_after state t (pools.act_or_wait state.pools t (room state) (is_marked state t) call)

-- ---- channels ----

-- the linked thread that a transfer names
abbrev pub target_of : State → ChanCall → Option ℕ
target_of state (chan.Transfer text channel) = linked_thread state.rows text
target_of state call = None

-- a channel that is on its way comes by an event of its target
abbrev pub moves : State → ChanCall → (target : Option ℕ) → Reply → State
moves state (chan.Transfer text channel) (Some target) reply.Go =
    state_with_event state target false (event.Moved channel)
moves state call target answered = state

abbrev pub on_channels : State → ℕ → ChanCall → Acted
on_channels state t call =
    let target = target_of state call in
    let answered = reply_of (channels.step_after state.channels t target call) in
    let table = channels.table_after state.channels t target call in
    answers (moves (record state { channels = table }) call target answered) answered

-- ---- all requests ----

-- `line` is what was read of standard input, for ReadLine alone
abbrev pub act : State → ℕ → Request → Line → Acted
act state t (ask.WriteOut text) line = writes_out state text
act state t (ask.WriteErr text) line = writes_err state text
act state t ask.ReadLine line = reads state line
act state t ask.StdinEof line = answers state (reply.Value (truth state.input_ended))
act state t (ask.Create joinable preserved script) line = creates state joinable preserved script
act state t (ask.Release text) line = asks_release state t text (ask.Release text)
act state t (ask.ErrorProc name) line = names_procedure state t name
act state t (ask.Send text script mode variable head) line = sends state t text script mode variable head
act state t (ask.Await n) line = awaits state t n
act state t ask.Take line = takes state t
act state t ask.TakeReady line = takes state t
act state t (ask.Deliver n outcome) line = delivers state t n outcome
act state t (ask.Report trace plain) line = reports state t trace plain
act state t (ask.Broadcast script) line = broadcasts state t script
act state t (ask.Tsv call) line = on_arrays state t call
act state t (ask.Lock call) line = on_locks state t call
act state t (ask.Pool call) line = on_pools state t call
act state t (ask.Chan call) line = on_channels state t call
act state t (ask.DropTimer number) line = answers state reply.Go
act state t ask.AwaitTime line = answers state reply.Go
act state t ask.Pause line = answers state reply.Go
act state t (ask.End code) line = ends state t code
act state t (ask.Exit code) line = exits state code
act state t request line = asks_rows state t request
