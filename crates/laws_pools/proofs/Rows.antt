-- Whatever is asked, who was made as a worker of a pool stays one.
use Rattle.std.proofs.Common.{◌≡◌, ℕ, zero, suc, Bool, true, false, nat_lt, if◌then◌else◌, List, [], ◌∷◌, ◌++◌, Option, Some, None, refl, subst}
use Rattle.laws_pools.proofs.Starts.{StayWorkers, by_end, by_new, by_threads, stay_same}
use Rattle.tt_calls.specs.declared.chan_call.ChanCall.{ChanCall}
use Rattle.tt_calls.specs.declared.chan_call.ChanCall.TheVariants as chan
use Rattle.tt_calls.specs.declared.event.Event.{Event}
use Rattle.tt_calls.specs.declared.event.Event.TheVariants as event
use Rattle.tt_calls.specs.declared.outcome.Outcome.{Outcome}
use Rattle.tt_calls.specs.declared.reply.Reply.{Reply}
use Rattle.tt_calls.specs.declared.reply.Reply.TheVariants as reply
use Rattle.tt_calls.specs.declared.request.Mode.{Mode}
use Rattle.tt_calls.specs.declared.request.Mode.TheVariants.{Waits, Later}
use Rattle.tt_calls.specs.declared.request.Request.{Request}
use Rattle.tt_calls.specs.declared.request.Request.TheVariants as ask
use Rattle.tt_calls.specs.declared.start.Start.{Start}
use Rattle.tt_pools.specs.Calls as pools
use Rattle.tt_pools.specs.declared.step.PoolStep.{PoolStep}
use Rattle.tt_calls.specs.declared.reply.Step.{Step}
use Rattle.tt_calls.specs.declared.reply.Step.TheVariants as step
use Rattle.tt_shared.specs.Acts.{act, creates, gives_of, has_newline, is_unheld, moves, reads, starts, stops_unheld, with_workers}
use Rattle.tt_shared.specs.Mail.{first_of, variable_post}
use Rattle.tt_shared.specs.Sends.{awaits_at, broadcasts_to, come, delivers_at, delivers_value, is_asked, names_procedure, procedure_in_use, reports_to, sends}
use Rattle.tt_shared.specs.Sends.{sends_linked, sends_named, sets, state_with_event, takes, takes_first}
use Rattle.tt_shared.specs.State.{Acted, State, is_marked, room, with_thread}
use Rattle.tt_shared.specs.declared.applied.Line.{Line}
use Rattle.tt_shared.specs.declared.applied.Line.TheVariants as line
use Rattle.tt_shared.specs.declared.posts.VariablePost.{VariablePost}
use Rattle.tt_shared.specs.declared.reports.ErrorProcedure.{ErrorProcedure}
use Rattle.tt_slots.specs.Waiting.{slot_of}
use Rattle.tt_slots.specs.declared.slot.Slot.{Slot}
use Rattle.tt_threads.specs.Requests as threads
use Rattle.tt_threads.specs.Rows.{linked_thread, living, most_living, new_row, row_of}
use Rattle.tt_threads.specs.declared.row.Row.{Row}

by_if : (b : Bool) (one other : Acted) (rows : List Row) → StayWorkers rows one.state.rows → StayWorkers rows other.state.rows →
    StayWorkers rows (if b then one else other).state.rows
by_if true one other rows first second = first
by_if false one other rows first second = second

either : (b : Bool) (one other : State) (rows : List Row) → StayWorkers rows one.rows → StayWorkers rows other.rows →
    StayWorkers rows (if b then one else other).rows
either true one other rows first second = first
either false one other rows first second = second

-- ---- streams and threads ----

by_reads : (state : State) (line : Line) → StayWorkers state.rows (reads state line).state.rows
by_reads state line.NotRead = stay_same state.rows
by_reads state (line.Read text) = by_if (has_newline text) _ _ _ (stay_same state.rows) (stay_same state.rows)
by_reads state line.End = stay_same state.rows
by_reads state line.TooLong = stay_same state.rows

by_thread : (state : State) (row : Row) → StayWorkers state.rows (with_thread state row).rows
by_thread state row =
    either (nat_lt (living state.rows) most_living) (record state { rows = state.rows ++ row ∷ []; queues = state.queues ++ [] ∷ [] }) state state.rows
    (by_new state.rows row) (stay_same state.rows)

by_creates : (state : State) (joinable preserved : Bool) (script : List ℕ) → StayWorkers state.rows (creates state joinable preserved script).state.rows
by_creates state joinable preserved script = by_if _ _ _ _ (by_thread state _) (stay_same state.rows)

by_stops : (rows : List Row) (state : State) (number : Option ℕ) → StayWorkers rows state.rows → StayWorkers rows (stops_unheld state number).rows
by_stops rows state None stay = stay
by_stops rows state (Some number) stay = either (is_unheld (row_of state.rows number)) (state_with_event state number false event.Stop) state rows stay stay

by_names : (state : State) (t : ℕ) (name : Option (List ℕ)) → StayWorkers state.rows (names_procedure state t name).state.rows
by_names state t None = stay_same state.rows
by_names state t (Some name) = stay_same state.rows

by_workers : (n : ℕ) (start : Start) (state : State) → StayWorkers state.rows (with_workers n start state).rows
by_workers zero start state u text is = is
by_workers (suc n) start state u text is =
    by_thread (with_workers n start state) (new_row start false false) u text (by_workers n start state u text is)

pub by_starts : (state : State) (n : ℕ) (worker : Option Start) → StayWorkers state.rows (starts state n worker).rows
by_starts state n None = stay_same state.rows
by_starts state n (Some worker) = by_workers n worker state

-- ---- sends ----

by_linked : (state : State) (t target : ℕ) (script : List ℕ) (mode : Mode) (variable : Option (List ℕ)) (head : Bool) →
    StayWorkers state.rows (sends_linked state t target script mode variable head).state.rows
by_linked state t target script Waits variable head = by_if _ _ _ _ (stay_same state.rows) (stay_same state.rows)
by_linked state t target script Later variable head = stay_same state.rows

by_named : (state : State) (t : ℕ) (text script : List ℕ) (mode : Mode) (variable : Option (List ℕ)) (head : Bool) (target : Option ℕ) →
    StayWorkers state.rows (sends_named state t text script mode variable head target).state.rows
by_named state t text script mode variable head None = stay_same state.rows
by_named state t text script mode variable head (Some target) = by_linked state t target script mode variable head

by_sends : (state : State) (t : ℕ) (text script : List ℕ) (mode : Mode) (variable : Option (List ℕ)) (head : Bool) →
    StayWorkers state.rows (sends state t text script mode variable head).state.rows
by_sends state t text script mode variable head =
    by_if (is_asked mode variable) _ _ _ (by_named state t text script mode variable head (linked_thread state.rows text)) (stay_same state.rows)

by_awaits : (state : State) (t n : ℕ) (found : Option Slot) → StayWorkers state.rows (awaits_at state t n found).state.rows
by_awaits state t n None = stay_same state.rows
by_awaits state t n (Some found) = by_if _ _ _ _ (stay_same state.rows) (stay_same state.rows)

by_sets : (state : State) (post : VariablePost) (value : List ℕ) → StayWorkers state.rows (sets state post value).rows
by_sets state post value = either _ _ _ _ (stay_same state.rows) (stay_same state.rows)

by_value : (state : State) (t n : ℕ) (outcome : Outcome) (found : Option VariablePost) →
    StayWorkers state.rows (delivers_value state t n outcome found).state.rows
by_value state t n outcome None = stay_same state.rows
by_value state t n outcome (Some post) = by_if _ _ _ _ (by_sets _ post outcome.value) (stay_same state.rows)

by_delivers : (state : State) (t n : ℕ) (outcome : Outcome) (found : Option Slot) → StayWorkers state.rows (delivers_at state t n outcome found).state.rows
by_delivers state t n outcome None = by_value state t n outcome (variable_post state.posts n)
by_delivers state t n outcome (Some found) = by_if _ _ _ _ (stay_same state.rows) (stay_same state.rows)

by_reports : (state : State) (t : ℕ) (trace : List ℕ) (procedure : Option ErrorProcedure) →
    StayWorkers state.rows (reports_to state t trace procedure).state.rows
by_reports state t trace None = stay_same state.rows
by_reports state t trace (Some procedure) = stay_same state.rows

by_broadcasts : (count t : ℕ) (script : List ℕ) (state : State) → StayWorkers state.rows (broadcasts_to count t script state).rows
by_broadcasts zero t script state = stay_same state.rows
by_broadcasts (suc n) t script state =
    let before = by_broadcasts n t script state in
    either _ _ _ _ before before

-- ---- events and channels ----

by_come : (state : State) (t : ℕ) (taken : Event) → StayWorkers state.rows (come state t taken).rows
by_come state t (event.Moved channel) = stay_same state.rows
by_come state t taken = stay_same state.rows

by_first : (state : State) (t : ℕ) (found : Option Event) → StayWorkers state.rows (takes_first state t found).state.rows
by_first state t None = stay_same state.rows
by_first state t (Some taken) = by_come _ t taken

pub by_takes : (state : State) (t : ℕ) → StayWorkers state.rows (takes state t).state.rows
by_takes state t = by_first state t (first_of state.queues t)

by_moves : (state : State) (call : ChanCall) (target : Option ℕ) (told : Reply) → StayWorkers state.rows (moves state call target told).rows
by_moves state (chan.Transfer text channel) (Some target) reply.Go = stay_same state.rows
by_moves state call target told = stay_same state.rows

-- ---- all requests ----

by_gives : (rows : List Row) (state : State) (t : ℕ) (gives : PoolStep) → state.rows ≡ rows → StayWorkers rows (gives_of state t gives).state.rows
by_gives rows state t gives same = go gives.step refl
  where
    on : (new : List Row) → StayWorkers state.rows new → StayWorkers rows new
    on new stay = subst (λ old. StayWorkers old new) same stay

    go : (what : Step) → gives.step ≡ what → StayWorkers rows (gives_of state t gives).state.rows
    go step.Wait is = rw is (on (takes state t).state.rows (by_takes state t))
    go (step.Reply told) is = rw is (on (starts state gives.start gives.worker).rows (by_starts state gives.start gives.worker))

pub stay : (state : State) (t : ℕ) (request : Request) (line : Line) → StayWorkers state.rows (act state t request line).state.rows
stay state t (ask.WriteOut text) line = stay_same state.rows
stay state t (ask.WriteErr text) line = stay_same state.rows
stay state t ask.ReadLine line = by_reads state line
stay state t ask.StdinEof line = stay_same state.rows
stay state t (ask.Create joinable preserved script) line = by_creates state joinable preserved script
stay state t (ask.Release text) line =
    by_stops state.rows (record state { rows = (threads.act state.rows t (ask.Release text)).rows }) (threads.thread_named state.rows t text)
    (by_threads state.rows t (ask.Release text))
stay state t (ask.ErrorProc name) line = by_names state t name
stay state t (ask.Send text script mode variable head) line = by_sends state t text script mode variable head
stay state t (ask.Await n) line = by_awaits state t n (slot_of state.posts.slots n)
stay state t ask.Take line = by_takes state t
stay state t ask.TakeReady line = by_takes state t
stay state t (ask.Deliver n outcome) line = by_delivers state t n outcome (slot_of state.posts.slots n)
stay state t (ask.Report trace plain) line = by_reports state t trace (procedure_in_use state plain state.error_procedure)
stay state t (ask.Broadcast script) line = by_broadcasts _ t script state
stay state t (ask.Tsv call) line = stay_same state.rows
stay state t (ask.Lock call) line = stay_same state.rows
stay state t (ask.Pool call) line =
    let answered = pools.act_or_wait state.pools t (room state) (is_marked state t) call in
    by_gives state.rows (record state { pools = answered.table }) t answered.gives refl
stay state t (ask.Chan call) line = by_moves _ call _ _
stay state t (ask.DropTimer number) line = stay_same state.rows
stay state t ask.AwaitTime line = stay_same state.rows
stay state t ask.Pause line = stay_same state.rows
stay state t (ask.End code) line = by_end state.rows t code
stay state t (ask.Exit code) line = stay_same state.rows
stay state t request line = by_threads state.rows t request
