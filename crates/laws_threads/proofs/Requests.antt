-- What each request does to how many threads there are.
use Rattle.std.proofs.Common.{◌≡◌, ◌≤◌, nat_lt, ℕ, zero, suc, Bool, true, false, if◌then◌else◌, List, Option, Some, None, refl, sym, subst}
use Rattle.std.proofs.Common.{arith}
use Rattle.laws_threads.proofs.Numbers.{Bounded, Makes, Same, by_makes, by_same, makes_more, makes_none, makes_one, same}
use Rattle.laws_threads.proofs.Rows.{by_end, by_threads}
use Rattle.laws_threads.proofs.Workers.{few_workers}
use Rattle.tt_calls.specs.declared.chan_call.ChanCall.{ChanCall}
use Rattle.tt_calls.specs.declared.chan_call.ChanCall.TheVariants as chan
use Rattle.tt_calls.specs.declared.event.Event.{Event}
use Rattle.tt_calls.specs.declared.event.Event.TheVariants as event
use Rattle.tt_calls.specs.declared.outcome.Outcome.{Outcome}
use Rattle.tt_calls.specs.declared.pool_call.PoolCall.{PoolCall}
use Rattle.tt_calls.specs.declared.reply.Reply.{Reply}
use Rattle.tt_calls.specs.declared.reply.Reply.TheVariants as reply
use Rattle.tt_calls.specs.declared.reply.Step.{Step}
use Rattle.tt_calls.specs.declared.reply.Step.TheVariants as step
use Rattle.tt_calls.specs.declared.request.Mode.{Mode}
use Rattle.tt_calls.specs.declared.request.Mode.TheVariants.{Waits, Later}
use Rattle.tt_calls.specs.declared.request.Request.{Request}
use Rattle.tt_calls.specs.declared.request.Request.TheVariants as ask
use Rattle.tt_calls.specs.declared.start.Start.{Start}
use Rattle.tt_calls.specs.declared.start.Start.TheVariants.{Script}
use Rattle.tt_pools.specs.Calls as pools
use Rattle.tt_pools.specs.Pools.{most_workers}
use Rattle.tt_pools.specs.declared.step.PoolStep.{PoolStep}
use Rattle.tt_shared.specs.Acts.{act, creates, gives_of, has_newline, moves, on_pools, reads, starts, stops_unheld, with_workers}
use Rattle.tt_shared.specs.Mail.{first_of, variable_post}
use Rattle.tt_shared.specs.Sends.{awaits_at, broadcasts_to, come, delivers_at, delivers_value, is_asked}
use Rattle.tt_shared.specs.Sends.{names_procedure, procedure_in_use, reports_to, sends, sends_linked, sends_named, sets}
use Rattle.tt_shared.specs.Sends.{takes, takes_first}
use Rattle.tt_shared.specs.State.{Acted, State, is_marked, room, with_thread}
use Rattle.tt_shared.specs.declared.applied.Line.{Line}
use Rattle.tt_shared.specs.declared.applied.Line.TheVariants as line
use Rattle.tt_shared.specs.declared.posts.VariablePost.{VariablePost}
use Rattle.tt_shared.specs.declared.reports.ErrorProcedure.{ErrorProcedure}
use Rattle.tt_slots.specs.Waiting.{slot_of}
use Rattle.tt_slots.specs.declared.slot.Slot.{Slot}
use Rattle.tt_threads.specs.Requests as threads
use Rattle.tt_threads.specs.Rows.{linked_thread, living, most_living, new_row}
use Rattle.tt_threads.specs.declared.row.Row.{Row}

-- ---- what touches no row ----

module _ (rows : List Row) where
  by_if : (b : Bool) (first second : Acted) → first.state.rows ≡ rows → second.state.rows ≡ rows → (if b then first else second).state.rows ≡ rows
  by_if true first second here there = here
  by_if false first second here there = there

  either : (b : Bool) (first second : State) → first.rows ≡ rows → second.rows ≡ rows → (if b then first else second).rows ≡ rows
  either true first second here there = here
  either false first second here there = there

by_reads : (state : State) (line : Line) → (reads state line).state.rows ≡ state.rows
by_reads state line.NotRead = refl
by_reads state (line.Read text) = by_if _ (has_newline text) _ _ refl refl
by_reads state line.End = refl
by_reads state line.TooLong = refl

by_stops : (state : State) (number : Option ℕ) → (stops_unheld state number).rows ≡ state.rows
by_stops state None = refl
by_stops state (Some number) = either _ _ _ _ refl refl

by_names : (state : State) (t : ℕ) (name : Option (List ℕ)) → (names_procedure state t name).state.rows ≡ state.rows
by_names state t None = refl
by_names state t (Some name) = refl

by_linked : (state : State) (t target : ℕ) (script : List ℕ) (mode : Mode) (variable : Option (List ℕ)) (head : Bool) →
    (sends_linked state t target script mode variable head).state.rows ≡ state.rows
by_linked state t target script Waits variable head = by_if _ _ _ _ refl refl
by_linked state t target script Later variable head = refl

by_named : (state : State) (t : ℕ) (text script : List ℕ) (mode : Mode) (variable : Option (List ℕ)) (head : Bool) (target : Option ℕ) →
    (sends_named state t text script mode variable head target).state.rows ≡ state.rows
by_named state t text script mode variable head None = refl
by_named state t text script mode variable head (Some target) = by_linked state t target script mode variable head

by_sends : (state : State) (t : ℕ) (text script : List ℕ) (mode : Mode) (variable : Option (List ℕ)) (head : Bool) →
    (sends state t text script mode variable head).state.rows ≡ state.rows
by_sends state t text script mode variable head =
    by_if _ (is_asked mode variable) _ _ (by_named state t text script mode variable head (linked_thread state.rows text)) refl

by_awaits : (state : State) (t n : ℕ) (found : Option Slot) → (awaits_at state t n found).state.rows ≡ state.rows
by_awaits state t n None = refl
by_awaits state t n (Some found) = by_if _ _ _ _ refl refl

by_sets : (state : State) (post : VariablePost) (value : List ℕ) → (sets state post value).rows ≡ state.rows
by_sets state post value = either _ _ _ _ refl refl

by_value : (state : State) (t n : ℕ) (outcome : Outcome) (found : Option VariablePost) →
    (delivers_value state t n outcome found).state.rows ≡ state.rows
by_value state t n outcome None = refl
by_value state t n outcome (Some post) = by_if _ _ _ _ (by_sets _ post outcome.value) refl

by_delivers : (state : State) (t n : ℕ) (outcome : Outcome) (found : Option Slot) → (delivers_at state t n outcome found).state.rows ≡ state.rows
by_delivers state t n outcome None = by_value state t n outcome (variable_post state.posts n)
by_delivers state t n outcome (Some found) = by_if _ _ _ _ refl refl

by_reports : (state : State) (t : ℕ) (trace : List ℕ) (procedure : Option ErrorProcedure) → (reports_to state t trace procedure).state.rows ≡ state.rows
by_reports state t trace None = refl
by_reports state t trace (Some procedure) = refl

by_broadcasts : (count t : ℕ) (script : List ℕ) (state : State) → (broadcasts_to count t script state).rows ≡ state.rows
by_broadcasts zero t script state = refl
by_broadcasts (suc n) t script state =
    let before = by_broadcasts n t script state in
    either _ _ _ _ before before

by_come : (state : State) (t : ℕ) (what : Event) → (come state t what).rows ≡ state.rows
by_come state t (event.Moved channel) = refl
by_come state t what = refl

by_first : (state : State) (t : ℕ) (found : Option Event) → (takes_first state t found).state.rows ≡ state.rows
by_first state t None = refl
by_first state t (Some what) = by_come _ t what

by_takes : (state : State) (t : ℕ) → (takes state t).state.rows ≡ state.rows
by_takes state t = by_first state t (first_of state.queues t)

by_moves : (state : State) (call : ChanCall) (target : Option ℕ) (told : Reply) → (moves state call target told).rows ≡ state.rows
by_moves state (chan.Transfer text channel) (Some target) reply.Go = refl
by_moves state call target told = refl

still : (old new : List Row) → new ≡ old → Bounded old new
still old new is = by_same old new (subst (Same old) (sym is) (same old))

-- ---- new threads ----

thread : (state : State) (start : Start) (joinable preserved : Bool) → Makes 1 state.rows (with_thread state (new_row start joinable preserved)).rows
thread state start joinable preserved = go (nat_lt (living state.rows) most_living) refl
  where
    go : (b : Bool) → nat_lt (living state.rows) most_living ≡ b → Makes 1 state.rows (with_thread state (new_row start joinable preserved)).rows
    go true room = rw room (makes_one state.rows start joinable preserved room)
    go false room = rw room (makes_none 1 state.rows)

makes_if : (rows : List Row) (b : Bool) (first second : Acted) → Makes 1 rows first.state.rows → Makes 1 rows second.state.rows
    → Makes 1 rows (if b then first else second).state.rows
makes_if rows true first second here there = here
makes_if rows false first second here there = there

by_creates : (state : State) (joinable preserved : Bool) (script : List ℕ) → Makes 1 state.rows (creates state joinable preserved script).state.rows
by_creates state joinable preserved script =
    makes_if state.rows _ _ _ (thread state (Script script) joinable preserved) (makes_none 1 state.rows)

by_workers : (n : ℕ) (start : Start) (state : State) → Makes n state.rows (with_workers n start state).rows
by_workers zero start state = makes_none 0 state.rows
by_workers (suc n) start state =
    makes_more n state.rows _ _ (by_workers n start state) (thread (with_workers n start state) start false false)

by_starts : (state : State) (n : ℕ) (worker : Option Start) → Makes n state.rows (starts state n worker).rows
by_starts state n None = makes_none n state.rows
by_starts state n (Some worker) = by_workers n worker state

by_gives : (state : State) (t : ℕ) (gives : PoolStep) → gives.start ≤ most_workers → Bounded state.rows (gives_of state t gives).state.rows
by_gives state t gives few = go gives.step refl
  where
    go : (what : Step) → gives.step ≡ what → Bounded state.rows (gives_of state t gives).state.rows
    go step.Wait is = rw is (still state.rows _ (by_takes state t))
    go (step.Reply told) is = rw is (by_makes gives.start state.rows _ few (by_starts state gives.start gives.worker))

by_pools : (state : State) (t : ℕ) (call : PoolCall) → Bounded state.rows (on_pools state t call).state.rows
by_pools state t call =
    let answered = pools.act_or_wait state.pools t (room state) (is_marked state t) call in
    by_gives (record state { pools = answered.table }) t answered.gives (few_workers state.pools t (room state) (is_marked state t) call)

-- ---- all requests ----

by_release : (state : State) (t : ℕ) (text : List ℕ) →
    Bounded state.rows (stops_unheld (record state { rows = (threads.act state.rows t (ask.Release text)).rows }) (threads.thread_named state.rows t text)).rows
by_release state t text =
    by_same state.rows _
    (subst (Same state.rows) (sym (by_stops _ (threads.thread_named state.rows t text))) (by_threads state.rows t (ask.Release text)))

pub by_request : (state : State) (t : ℕ) (request : Request) (line : Line) → Bounded state.rows (act state t request line).state.rows
by_request state t (ask.WriteOut text) line = still _ _ refl
by_request state t (ask.WriteErr text) line = still _ _ refl
by_request state t ask.ReadLine line = still _ _ (by_reads state line)
by_request state t ask.StdinEof line = still _ _ refl
by_request state t (ask.Create joinable preserved script) line = by_makes 1 _ _ (omega arith) (by_creates state joinable preserved script)
by_request state t (ask.Release text) line = by_release state t text
by_request state t (ask.ErrorProc name) line = still _ _ (by_names state t name)
by_request state t (ask.Send text script mode variable head) line = still _ _ (by_sends state t text script mode variable head)
by_request state t (ask.Await n) line = still _ _ (by_awaits state t n (slot_of state.posts.slots n))
by_request state t ask.Take line = still _ _ (by_takes state t)
by_request state t ask.TakeReady line = still _ _ (by_takes state t)
by_request state t (ask.Deliver n outcome) line = still _ _ (by_delivers state t n outcome (slot_of state.posts.slots n))
by_request state t (ask.Report trace plain) line = still _ _ (by_reports state t trace (procedure_in_use state plain state.error_procedure))
by_request state t (ask.Broadcast script) line = still _ _ (by_broadcasts _ t script state)
by_request state t (ask.Tsv call) line = still _ _ refl
by_request state t (ask.Lock call) line = still _ _ refl
by_request state t (ask.Pool call) line = by_pools state t call
by_request state t (ask.Chan call) line = still _ _ (by_moves _ call _ _)
by_request state t (ask.DropTimer number) line = still _ _ refl
by_request state t ask.AwaitTime line = still _ _ refl
by_request state t ask.Pause line = still _ _ refl
by_request state t (ask.End code) line = by_end state.rows t code
by_request state t (ask.Exit code) line = still _ _ refl
by_request state t request line = by_same _ _ (by_threads state.rows t request)
