-- What leaves the events that set variables in the queues.
use Rattle.std.proofs.Common.{◌≡◌, ◌∙◌, ◌==◌, ℕ, zero, suc, Bool, true, false, cond, if◌then◌else◌, List, [], ◌∷◌, ◌++◌}
use Rattle.std.proofs.Common.{Option, Some, None, ap, refl, sym, append-nil}
use Rattle.tt_calls.specs.declared.chan_call.ChanCall.{ChanCall}
use Rattle.tt_calls.specs.declared.chan_call.ChanCall.TheVariants as chan
use Rattle.tt_calls.specs.declared.event.Event.{Event}
use Rattle.tt_calls.specs.declared.event.Event.TheVariants as event
use Rattle.tt_calls.specs.declared.reply.Reply.{Reply}
use Rattle.tt_calls.specs.declared.reply.Reply.TheVariants as reply
use Rattle.tt_calls.specs.declared.request.Mode.{Mode}
use Rattle.tt_calls.specs.declared.request.Mode.TheVariants.{Waits, Later}
use Rattle.tt_calls.specs.declared.request.Request.{Request}
use Rattle.tt_calls.specs.declared.request.Request.TheVariants as ask
use Rattle.tt_calls.specs.declared.start.Start.{Start}
use Rattle.laws_shared.proofs.Numbered.{by_more, by_number}
use Rattle.laws_shared.specs.KeptChannels.{events_in}
use Rattle.laws_variables.specs.VariableEvents.{sets_variable, variable_events}
use Rattle.tt_shared.specs.Acts.{act, creates, has_newline, moves, reads, starts, stops_unheld, with_workers}
use Rattle.tt_shared.specs.Mail.{Queues, queue_of, queues_with_event, queues_with_event_in, with_event}
use Rattle.tt_shared.specs.Sends.{awaits_at, broadcasts_to, is_asked, names_procedure, procedure_in_use, reports_to, sends, sends_linked, sends_named}
use Rattle.tt_shared.specs.Sends.{state_with_event, takes_answer, tells}
use Rattle.tt_shared.specs.State.{Acted, State, is_not_asked, with_thread}
use Rattle.tt_shared.specs.declared.applied.Line.{Line}
use Rattle.tt_shared.specs.declared.applied.Line.TheVariants as line
use Rattle.tt_shared.specs.declared.reports.ErrorProcedure.{ErrorProcedure}
use Rattle.tt_slots.specs.Waiting.{slot_of}
use Rattle.tt_slots.specs.declared.slot.Slot.{Slot}
use Rattle.tt_threads.specs.Requests as threads
use Rattle.tt_threads.specs.Rows.{linked_thread, new_row}
use Rattle.tt_threads.specs.declared.row.Row.{Row}

-- ---- lists of events ----

pub events-append : (xs ys : List Event) → variable_events (xs ++ ys) ≡ variable_events xs ++ variable_events ys
events-append [] ys = refl
events-append (x ∷ xs) ys = go (sets_variable x) (events-append xs ys)
  where
    go : (b : Bool) → variable_events (xs ++ ys) ≡ variable_events xs ++ variable_events ys
        → cond b (x ∷ variable_events (xs ++ ys)) (variable_events (xs ++ ys)) ≡ cond b (x ∷ variable_events xs) (variable_events xs) ++ variable_events ys
    go true later = ap (λ rest. x ∷ rest) later
    go false later = later

with_other : (head : Bool) (one : Event) (events : List Event) → sets_variable one ≡ false
    → variable_events (with_event head one events) ≡ variable_events events
with_other true one events is = ap (λ b. cond b (one ∷ variable_events events) (variable_events events)) is
with_other false one events is =
    events-append events (one ∷ []) ∙ ap (λ b. variable_events events ++ cond b (one ∷ []) []) is ∙ append-nil (variable_events events)

-- ---- queues ----

abbrev pub kept_at : Queues → ℕ → List Event
kept_at queues t = variable_events (events_in (queue_of queues t))

abbrev pub SameEvents : Queues → Queues → Type 0
SameEvents old new = (t : ℕ) → kept_at new t ≡ kept_at old t

other_mail : (queues : Queues) (u : ℕ) (head : Bool) (one : Event) → sets_variable one ≡ false → SameEvents queues (queues_with_event queues u head one)
other_mail queues u head one is = go (queue_of queues u) refl
  where
    go : (found : Option (List Event)) → queue_of queues u ≡ found → SameEvents queues (queues_with_event_in queues u head one found)
    go None there t = refl
    go (Some events) there t =
        by_number (λ found. variable_events (events_in found) ≡ kept_at queues t) queues u t (with_event head one events) events there
        (λ alike. with_other head one events is ∙ sym (ap (kept_at queues) alike ∙ ap (λ found. variable_events (events_in found)) there)) refl

new_queue : (queues : Queues) → SameEvents queues (queues ++ [] ∷ [])
new_queue queues t = by_more (λ found. variable_events (events_in found) ≡ kept_at queues t) queues t [] (λ none last. none) refl

-- ---- states ----

abbrev pub Same : State → State → Type 0
Same old new = SameEvents old.queues new.queues

still : (state : State) → Same state state
still state t = refl

mail : (state : State) (u : ℕ) (head : Bool) (one : Event) → sets_variable one ≡ false → Same state (state_with_event state u head one)
mail state u head one is = other_mail state.queues u head one is

module _ (old : State) where
  by_if : (b : Bool) (one other : Acted) → Same old one.state → Same old other.state → Same old (if b then one else other).state
  by_if true one other first second = first
  by_if false one other first second = second

  either : (b : Bool) (one other : State) → Same old one → Same old other → Same old (if b then one else other)
  either true one other first second = first
  either false one other first second = second

thread : (state : State) (row : Row) → Same state (with_thread state row)
thread state row =
    either state _ (record state { rows = state.rows ++ row ∷ []; queues = state.queues ++ [] ∷ [] }) state (new_queue state.queues) (still state)

by_reads : (state : State) (line : Line) → Same state (reads state line).state
by_reads state line.NotRead = still state
by_reads state (line.Read text) = by_if state (has_newline text) _ _ (still state) (still state)
by_reads state line.End = still state
by_reads state line.TooLong = still state

by_creates : (state : State) (joinable preserved : Bool) (script : List ℕ) → Same state (creates state joinable preserved script).state
by_creates state joinable preserved script = by_if state _ _ _ (thread state _) (still state)

by_stops : (state : State) (number : Option ℕ) → Same state (stops_unheld state number)
by_stops state None = still state
by_stops state (Some number) = either state _ _ _ (mail state number false event.Stop refl) (still state)

by_names : (state : State) (t : ℕ) (name : Option (List ℕ)) → Same state (names_procedure state t name).state
by_names state t None = still state
by_names state t (Some name) = still state

by_linked : (state : State) (t target : ℕ) (script : List ℕ) (mode : Mode) (variable : Option (List ℕ)) (head : Bool)
    → Same state (sends_linked state t target script mode variable head).state
by_linked state t target script Waits variable head = by_if state (target == t) _ _ (still state) (other_mail state.queues target head _ refl)
by_linked state t target script Later variable head = other_mail state.queues target head _ refl

by_named : (state : State) (t : ℕ) (text script : List ℕ) (mode : Mode) (variable : Option (List ℕ)) (head : Bool) (target : Option ℕ)
    → Same state (sends_named state t text script mode variable head target).state
by_named state t text script mode variable head None = still state
by_named state t text script mode variable head (Some target) = by_linked state t target script mode variable head

by_sends : (state : State) (t : ℕ) (text script : List ℕ) (mode : Mode) (variable : Option (List ℕ)) (head : Bool)
    → Same state (sends state t text script mode variable head).state
by_sends state t text script mode variable head =
    by_if state (is_asked mode variable) _ _ (by_named state t text script mode variable head (linked_thread state.rows text)) (still state)

by_awaits : (state : State) (t n : ℕ) (found : Option Slot) → Same state (awaits_at state t n found).state
by_awaits state t n None = still state
by_awaits state t n (Some found) = by_if state (found.sender == t) (takes_answer state n found.state) (is_not_asked state) (still state) (still state)

by_tells : (state : State) (target : ℕ) (script : List ℕ) (plain : Bool) → Same state (tells state target script plain)
by_tells state target script plain = other_mail state.queues target false _ refl

by_reports : (state : State) (t : ℕ) (trace : List ℕ) (procedure : Option ErrorProcedure) → Same state (reports_to state t trace procedure).state
by_reports state t trace None = still state
by_reports state t trace (Some procedure) = by_tells state procedure.thread _ true

by_broadcasts : (n t : ℕ) (script : List ℕ) (state : State) → Same state (broadcasts_to n t script state)
by_broadcasts zero t script state = still state
by_broadcasts (suc n) t script state =
    let before = by_broadcasts n t script state in
    either state _ _ _ (λ u. by_tells (broadcasts_to n t script state) (suc n) script false u ∙ before u) before

by_workers : (n : ℕ) (start : Start) (state : State) → Same state (with_workers n start state)
by_workers zero start state u = refl
by_workers (suc n) start state u = thread (with_workers n start state) (new_row start false false) u ∙ by_workers n start state u

pub by_starts : (state : State) (n : ℕ) (worker : Option Start) → Same state (starts state n worker)
by_starts state n None = still state
by_starts state n (Some worker) = by_workers n worker state

by_moves : (state : State) (call : ChanCall) (target : Option ℕ) (answered : Reply) → Same state (moves state call target answered)
by_moves state (chan.Transfer text channel) (Some target) reply.Go = mail state target false (event.Moved channel) refl
by_moves state call target answered = still state

-- ---- requests that answer no post and take no event ----

abbrev pub leaves_events : Request → Bool
leaves_events ask.Take = false
leaves_events ask.TakeReady = false
leaves_events (ask.Pool call) = false
leaves_events (ask.Deliver n outcome) = false
leaves_events (ask.End code) = false
leaves_events request = true

pub same_by : (state : State) (t : ℕ) (request : Request) (line : Line) → leaves_events request ≡ true → Same state (act state t request line).state
same_by state t (ask.WriteOut text) line is = still state
same_by state t (ask.WriteErr text) line is = still state
same_by state t ask.ReadLine line is = by_reads state line
same_by state t ask.StdinEof line is = still state
same_by state t (ask.Create joinable preserved script) line is = by_creates state joinable preserved script
same_by state t (ask.Release text) line is =
    by_stops (record state { rows = (threads.act state.rows t (ask.Release text)).rows }) (threads.thread_named state.rows t text)
same_by state t (ask.ErrorProc name) line is = by_names state t name
same_by state t (ask.Send text script mode variable head) line is = by_sends state t text script mode variable head
same_by state t (ask.Await n) line is = by_awaits state t n (slot_of state.posts.slots n)
same_by state t (ask.Report trace plain) line is = by_reports state t trace (procedure_in_use state plain state.error_procedure)
same_by state t (ask.Broadcast script) line is = by_broadcasts _ t script state
same_by state t (ask.Chan call) line is = by_moves _ call _ _
same_by state t ask.Take line is = absurd (cc is)
same_by state t ask.TakeReady line is = absurd (cc is)
same_by state t (ask.Pool call) line is = absurd (cc is)
same_by state t (ask.Deliver n outcome) line is = absurd (cc is)
same_by state t (ask.End code) line is = absurd (cc is)
same_by state t request line is = still state
