-- What most requests leave: the channels, who lives, and the events that bring channels.
use Rattle.std.proofs.Common.{◌≡◌, ◌∙◌, ◌==◌, ℕ, zero, suc, Bool, true, false, if◌then◌else◌, List, [], ◌∷◌, ◌++◌}
use Rattle.std.proofs.Common.{length, Option, Some, None, ap, refl, sym, subst}
use Rattle.tt_calls.specs.declared.event.Event.{Event}
use Rattle.tt_calls.specs.declared.event.Event.TheVariants as event
use Rattle.tt_calls.specs.declared.outcome.Outcome.{Outcome}
use Rattle.tt_calls.specs.declared.request.Mode.{Mode}
use Rattle.tt_calls.specs.declared.request.Mode.TheVariants.{Waits, Later}
use Rattle.tt_calls.specs.declared.request.Request.{Request}
use Rattle.tt_calls.specs.declared.request.Request.TheVariants as ask
use Rattle.tt_calls.specs.declared.start.Start.{Start}
use Rattle.laws_shared.proofs.Arrivals.{SameArrivals, by_mail, by_new, many_mail}
use Rattle.laws_shared.proofs.Families.{is_quiet}
use Rattle.laws_shared.proofs.Lives.{GoesOn, by_threads}
use Rattle.laws_shared.proofs.Numbered.{by_more}
use Rattle.laws_shared.specs.KeptChannels.{brings}
use Rattle.tt_shared.specs.Acts.{act, creates, has_newline, reads, starts, stops_unheld, with_workers}
use Rattle.tt_shared.specs.Mail.{Queues, queues_with_event, variable_post}
use Rattle.tt_shared.specs.Sends.{awaits_at, broadcasts_to, delivers_at, delivers_value, is_asked, is_due, state_with_event}
use Rattle.tt_shared.specs.Sends.{names_procedure, procedure_in_use, reports_to, sends, sends_linked, sends_named}
use Rattle.tt_shared.specs.Sends.{sends_to, reply_to_server, sets, takes_answer, tells}
use Rattle.tt_shared.specs.State.{Acted, State, answers, is_not_asked, with_thread}
use Rattle.tt_shared.specs.declared.applied.Line.{Line}
use Rattle.tt_shared.specs.declared.applied.Line.TheVariants as line
use Rattle.tt_shared.specs.declared.posts.VariablePost.{VariablePost}
use Rattle.tt_shared.specs.declared.reports.ErrorProcedure.{ErrorProcedure}
use Rattle.tt_slots.specs.Waiting.{slot_of, with_state}
use Rattle.tt_slots.specs.declared.slot.Slot.{Slot}
use Rattle.tt_slots.specs.declared.slot.SlotState.TheVariants as slot
use Rattle.tt_threads.specs.Requests as threads
use Rattle.tt_threads.specs.Rows.{is_living, is_living_at, linked_thread, new_row}
use Rattle.tt_threads.specs.declared.row.Row.{Row}

-- a thread has a queue
abbrev pub HaveQueues : State → Type 0
HaveQueues state = length state.queues ≡ length state.rows

pub record Mild (old new : State) : Type 0 where
  pub channels : new.channels ≡ old.channels
  pub many : HaveQueues old → HaveQueues new
  pub arrive : SameArrivals old.queues new.queues
  pub live : (u : ℕ) → is_living old.rows u ≡ true → is_living new.rows u ≡ true

and_on : (old next new : State) → Mild old next → Mild next new → Mild old new
and_on old next new first second = record {
  channels = second.channels ∙ first.channels;
  many = λ many. second.many (first.many many);
  arrive = λ u text. second.arrive u text ∙ first.arrive u text;
  live = λ u is. second.live u (first.live u is);
}

-- nothing of it is touched
quietly : (old new : State) → new.channels ≡ old.channels → new.queues ≡ old.queues → new.rows ≡ old.rows → Mild old new
quietly old new channels queues rows = record {
  channels = channels;
  many = λ many. ap length queues ∙ many ∙ sym (ap length rows);
  arrive = λ u text. ap (λ one. Rattle.laws_shared.specs.KeptChannels.arrivals one u text) queues;
  live = λ u is. subst (λ one. is_living one u ≡ true) (sym rows) is;
}

same : (state : State) → Mild state state
same state = quietly state state refl refl refl

mail : (state : State) (t : ℕ) (head : Bool) (event : Event) → ((text : List ℕ) → brings text event ≡ false) → Mild state (state_with_event state t head event)
mail state t head event quiet = record {
  channels = refl;
  many = λ many. many_mail state.queues t head event ∙ many;
  arrive = by_mail state.queues t head event quiet;
  live = λ u is. is;
}

in_rows : (state : State) (rows : List Row) → GoesOn state.rows rows → Mild state (record state { rows = rows })
in_rows state rows on = record {
  channels = refl;
  many = λ many. many ∙ sym on.many;
  arrive = λ u text. refl;
  live = on.live;
}

length-more : {X : Type 0} (xs : List X) (x : X) → length (xs ++ x ∷ []) ≡ suc (length xs)
length-more [] x = refl
length-more (y ∷ ys) x = ap suc (length-more ys x)

thread : (state : State) (row : Row) → Mild state (with_thread state row)
thread state row = go _
  where
    made : Mild state (record state { rows = state.rows ++ row ∷ []; queues = state.queues ++ [] ∷ [] })
    made = record {
      channels = refl;
      many = λ many. length-more state.queues [] ∙ ap suc many ∙ sym (length-more state.rows row);
      arrive = by_new state.queues;
      live = λ u is. by_more (λ found. is_living_at found ≡ true) state.rows u row (λ none last. absurd (cc none)) is;
    }

    go : (b : Bool) → Mild state (if b then record state { rows = state.rows ++ row ∷ []; queues = state.queues ++ [] ∷ [] } else state)
    go true = made
    go false = same state

-- ---- all that touches no channel ----

module _ (old : State) where
  by_if : (b : Bool) (one other : Acted) → Mild old one.state → Mild old other.state → Mild old (if b then one else other).state
  by_if true one other first second = first
  by_if false one other first second = second

  either : (b : Bool) (one other : State) → Mild old one → Mild old other → Mild old (if b then one else other)
  either true one other first second = first
  either false one other first second = second

by_reads : (state : State) (line : Line) → Mild state (reads state line).state
by_reads state line.NotRead = same state
by_reads state (line.Read text) = by_if state (has_newline text) _ _ (same state) (quietly state _ refl refl refl)
by_reads state line.End = quietly state _ refl refl refl
by_reads state line.TooLong = same state

by_creates : (state : State) (joinable preserved : Bool) (script : List ℕ) → Mild state (creates state joinable preserved script).state
by_creates state joinable preserved script = by_if state _ _ _ (thread state _) (same state)

by_stops : (old state : State) (n : Option ℕ) → Mild old state → Mild old (stops_unheld state n)
by_stops old state None mild = mild
by_stops old state (Some n) mild = either old _ _ _ (and_on old state _ mild (mail state n false event.Stop (λ text. refl))) mild

by_names : (state : State) (t : ℕ) (name : Option (List ℕ)) → Mild state (names_procedure state t name).state
by_names state t None = same state
by_names state t (Some name) = quietly state _ refl refl refl

by_sends_to : (state : State) (t target : ℕ) (script : List ℕ) (mode : Mode) (variable : Option (List ℕ)) (head : Bool) →
    Mild state (sends_to state t target script mode variable head).state
by_sends_to state t target script mode variable head =
    and_on state _ _ (quietly state (record state { posts = Rattle.tt_shared.specs.Mail.posts_with_next state.posts t target mode variable }) refl refl refl)
    (mail _ target head _ (λ text. refl))

by_linked : (state : State) (t target : ℕ) (script : List ℕ) (mode : Mode) (variable : Option (List ℕ)) (head : Bool) →
    Mild state (sends_linked state t target script mode variable head).state
by_linked state t target script Waits variable head = by_if state _ _ _ (same state) (by_sends_to state t target script Waits variable head)
by_linked state t target script Later variable head = by_sends_to state t target script Later variable head

by_named : (state : State) (t : ℕ) (text script : List ℕ) (mode : Mode) (variable : Option (List ℕ)) (head : Bool) (target : Option ℕ) →
    Mild state (sends_named state t text script mode variable head target).state
by_named state t text script mode variable head None = same state
by_named state t text script mode variable head (Some target) = by_linked state t target script mode variable head

by_sends : (state : State) (t : ℕ) (text script : List ℕ) (mode : Mode) (variable : Option (List ℕ)) (head : Bool) →
    Mild state (sends state t text script mode variable head).state
by_sends state t text script mode variable head =
    by_if state (is_asked mode variable) _ _ (by_named state t text script mode variable head (linked_thread state.rows text)) (same state)

by_awaits : (state : State) (t n : ℕ) (found : Option Slot) → Mild state (awaits_at state t n found).state
by_awaits state t n None = same state
by_awaits state t n (Some found) =
    by_if state (found.sender == t) (takes_answer state n found.state) (is_not_asked state) (quietly state _ refl refl refl) (same state)

by_sets : (old state : State) (post : VariablePost) (value : List ℕ) → Mild old state → Mild old (sets state post value)
by_sets old state post value mild = either old _ _ _ (and_on old state _ mild (mail state post.sender false (event.SetVar post.name value) (λ text. refl))) mild

by_value : (state : State) (t n : ℕ) (outcome : Outcome) (found : Option VariablePost) → Mild state (delivers_value state t n outcome found).state
by_value state t n outcome None = same state
by_value state t n outcome (Some post) = by_if state _ _ _ (by_sets state _ post outcome.value (quietly state _ refl refl refl)) (same state)

by_delivers : (state : State) (t n : ℕ) (outcome : Outcome) (found : Option Slot) → Mild state (delivers_at state t n outcome found).state
by_delivers state t n outcome None = by_value state t n outcome (variable_post state.posts n)
by_delivers state t n outcome (Some found) =
    by_if state (is_due t found) (answers filled (reply_to_server state t outcome)) (is_not_asked state) (quietly state filled refl refl refl) (same state)
  where
    filled : State
    filled = record state { posts = record state.posts { slots = with_state state.posts.slots n (slot.Result outcome) } }

by_tells : (state : State) (target : ℕ) (script : List ℕ) (plain : Bool) → Mild state (tells state target script plain)
by_tells state target script plain =
    and_on state _ _ (quietly state (record state { posts = Rattle.tt_shared.specs.Mail.with_plain state.posts }) refl refl refl)
    (mail _ target false _ (λ text. refl))

by_reports : (state : State) (t : ℕ) (trace : List ℕ) (procedure : Option ErrorProcedure) → Mild state (reports_to state t trace procedure).state
by_reports state t trace None = same state
by_reports state t trace (Some procedure) = by_tells state procedure.thread _ true

by_broadcasts : (n t : ℕ) (script : List ℕ) (state : State) → Mild state (broadcasts_to n t script state)
by_broadcasts zero t script state = same state
by_broadcasts (suc n) t script state =
    let before = by_broadcasts n t script state in
    either state _ _ _ (and_on state _ _ before (by_tells (broadcasts_to n t script state) (suc n) script false)) before

by_workers : (n : ℕ) (start : Start) (state : State) → Mild state (with_workers n start state)
by_workers zero start state = same state
by_workers (suc n) start state =
    and_on state (with_workers n start state) _ (by_workers n start state) (thread (with_workers n start state) (new_row start false false))

pub by_starts : (state : State) (n : ℕ) (worker : Option Start) → Mild state (starts state n worker)
by_starts state n None = same state
by_starts state n (Some worker) = by_workers n worker state

-- ---- all requests that touch no channel ----

by_threads_alone : (state : State) (t : ℕ) (request : Request) → Mild state (record state { rows = (threads.act state.rows t request).rows })
by_threads_alone state t request = in_rows state _ (by_threads state.rows t request)

pub mild : (state : State) (t : ℕ) (request : Request) (line : Line) → is_quiet request ≡ true → Mild state (act state t request line).state
mild state t (ask.WriteOut text) line is = same state
mild state t (ask.WriteErr text) line is = same state
mild state t ask.ReadLine line is = by_reads state line
mild state t ask.StdinEof line is = same state
mild state t (ask.Create joinable preserved script) line is = by_creates state joinable preserved script
mild state t (ask.Release text) line is = by_stops state _ (threads.thread_named state.rows t text) (by_threads_alone state t (ask.Release text))
mild state t (ask.ErrorProc name) line is = by_names state t name
mild state t (ask.Send text script mode variable head) line is = by_sends state t text script mode variable head
mild state t (ask.Await n) line is = by_awaits state t n (slot_of state.posts.slots n)
mild state t (ask.Deliver n outcome) line is = by_delivers state t n outcome (slot_of state.posts.slots n)
mild state t (ask.Report trace plain) line is = by_reports state t trace (procedure_in_use state plain state.error_procedure)
mild state t (ask.Broadcast script) line is = by_broadcasts _ t script state
mild state t (ask.Tsv call) line is = absurd (cc is)
mild state t (ask.Lock call) line is = absurd (cc is)
mild state t (ask.Pool call) line is = absurd (cc is)
mild state t (ask.Chan call) line is = absurd (cc is)
mild state t ask.Take line is = absurd (cc is)
mild state t ask.TakeReady line is = absurd (cc is)
mild state t (ask.End code) line is = absurd (cc is)
mild state t (ask.DropTimer number) line is = same state
mild state t ask.AwaitTime line is = same state
mild state t ask.Pause line is = same state
mild state t (ask.Exit code) line is = quietly state _ refl refl refl
mild state t request line is = by_threads_alone state t request
