-- What each request but a broadcast does to sends.
use Rattle.std.proofs.Common.{◌≡◌, ◌∙◌, ◌==◌, ◌&&◌, ℕ, zero, suc, Bool, true, false, not, if◌then◌else◌, List, [], ◌∷◌, ◌++◌}
use Rattle.std.proofs.Common.{Option, Some, None, ap, refl, sym, subst, ℤ}
use Rattle.std.specs.Map.{values_of}
use Rattle.laws_sends.proofs.Begins.{by_thread, rows_stay}
use Rattle.laws_sends.proofs.Cuts.{Every}
use Rattle.laws_sends.proofs.Moves.{Answers, AreWithPost, Move, Moves, begins, both, died, ends, fills, gets, one, quiet, result, sent, sets}
use Rattle.laws_sends.proofs.Queues.{IsNoScript, emptied, has_queue, new_queue, other_mail, script_mail, taken}
use Rattle.laws_sends.proofs.Threads.{by_new, by_threads, end_ends, end_stays, living_not_ended, stay_same}
use Rattle.laws_sends.proofs.Views.{OfOthers, SameBut, SameScripts, StayEnded, scripts, scripts_at, scripts_in}
use Rattle.laws_shared.proofs.Deciding.{same}
use Rattle.laws_shared.proofs.Lives.{linked_is}
use Rattle.laws_shared.proofs.Mild.{HaveQueues}
use Rattle.laws_shared.specs.Happenings.{Finished, Frees, GetsHold, Nobody, Posted, Set, answer_happenings, begin_happenings, deaths}
use Rattle.laws_shared.specs.Happenings.{got, hold_changed, recipient_of, report_happenings}
use Rattle.laws_shared.specs.Happenings.{send_happenings, slot_happenings, variable_happenings}
use Rattle.tt_calls.specs.declared.event.Event.{Event}
use Rattle.tt_calls.specs.declared.event.Event.TheVariants as event
use Rattle.tt_calls.specs.declared.outcome.Outcome.{Outcome}
use Rattle.tt_calls.specs.declared.reply.Reply.TheVariants as reply
use Rattle.tt_calls.specs.declared.request.Mode.{Mode}
use Rattle.tt_calls.specs.declared.request.Mode.TheVariants.{Waits, Later}
use Rattle.tt_calls.specs.declared.request.Request.{Request}
use Rattle.tt_calls.specs.declared.start.Start.{Start}
use Rattle.tt_shared.specs.Acts.{creates, has_newline, reads, starts, stops_unheld, with_workers}
use Rattle.tt_shared.specs.Ends.{end_event, hears, state_after_end, tells_died, with_died_event}
use Rattle.tt_shared.specs.Mail.{Queues, first_in, is_answered, posts_with_next, queue_of, queues_with_event, variable_post, with_queue, without_first_in}
use Rattle.tt_shared.specs.Mail.{without_variable}
use Rattle.tt_shared.specs.Sends.{awaits_at, come, delivers_at, delivers_value, is_asked, is_linked_row, is_target, names_procedure, procedure_in_use}
use Rattle.tt_shared.specs.Sends.{reply_to_server, reports_to, sends, sends_linked, sends_named, sends_to, sets as sets_variable, state_with_event, takes}
use Rattle.tt_shared.specs.Sends.{takes_answer}
use Rattle.tt_shared.specs.Sends.{takes_first, tells}
use Rattle.tt_shared.specs.State.{Acted, State, answers, is_not_asked, with_thread}
use Rattle.tt_shared.specs.declared.applied.Line.{Line}
use Rattle.tt_shared.specs.declared.applied.Line.TheVariants as line
use Rattle.tt_shared.specs.declared.posts.VariablePost.{VariablePost}
use Rattle.tt_shared.specs.declared.reports.ErrorProcedure.{ErrorProcedure}
use Rattle.tt_slots.specs.Waiting.{after_take, is_waiting, slot_of, with_state}
use Rattle.tt_slots.specs.declared.slot.Slot.{Slot}
use Rattle.tt_slots.specs.declared.slot.SlotState.{SlotState}
use Rattle.tt_slots.specs.declared.slot.SlotState.TheVariants as slot
use Rattle.tt_threads.specs.Requests as threads
use Rattle.tt_threads.specs.Rows.{is_living, linked_thread, new_row, row_of}
use Rattle.tt_threads.specs.declared.row.Row.{Row}

-- ---- what touches no send ----

pub quietly : (old new : State) → new.queues ≡ old.queues → new.posts ≡ old.posts → new.rows ≡ old.rows → Moves old new []
quietly old new queues posts rows = one (quiet [] tt (λ u. ap (λ all. scripts_at all u) queues) posts (rows_stay old.rows new.rows rows))

pub still : (state : State) → Moves state state []
still state = quietly state state refl refl refl

pub mail : (state : State) (t : ℕ) (head : Bool) (what : Event) → IsNoScript what → Moves state (state_with_event state t head what) []
mail state t head what is = one (quiet [] tt (other_mail state.queues t head what is) refl (stay_same state.rows))

pub in_rows : (state : State) (rows : List Row) → StayEnded state.rows rows → Moves state (record state { rows = rows }) []
in_rows state rows stay = one (quiet [] tt (λ u. refl) refl stay)

module _ (old : State) where
  pub by_if : (b : Bool) (first second : Acted) → Moves old first.state [] → Moves old second.state [] → Moves old (if b then first else second).state []
  by_if true first second here there = here
  by_if false first second here there = there

  pub either : (b : Bool) (first second : State) → Moves old first [] → Moves old second [] → Moves old (if b then first else second) []
  either true first second here there = here
  either false first second here there = there

thread : (state : State) (row : Row) → Moves state (with_thread state row) []
thread state row =
    either state _ (record state { rows = state.rows ++ row ∷ []; queues = state.queues ++ [] ∷ [] }) state
    (one (quiet [] tt (new_queue state.queues) refl (by_new state.rows row))) (still state)

pub by_reads : (state : State) (line : Line) → Moves state (reads state line).state []
by_reads state line.NotRead = still state
by_reads state (line.Read text) = by_if state (has_newline text) _ _ (still state) (quietly state _ refl refl refl)
by_reads state line.End = quietly state _ refl refl refl
by_reads state line.TooLong = still state

pub by_creates : (state : State) (joinable preserved : Bool) (script : List ℕ) → Moves state (creates state joinable preserved script).state []
by_creates state joinable preserved script = by_if state _ _ _ (thread state _) (still state)

pub by_stops : (old state : State) (n : Option ℕ) → Moves old state [] → Moves old (stops_unheld state n) []
by_stops old state None moves = moves
by_stops old state (Some n) moves = either old _ _ _ (both moves (mail state n false event.Stop (λ numbers. refl))) moves

pub by_names : (state : State) (t : ℕ) (name : Option (List ℕ)) → Moves state (names_procedure state t name).state []
by_names state t None = still state
by_names state t (Some name) = quietly state _ refl refl refl

by_workers : (n : ℕ) (start : Start) (state : State) → Moves state (with_workers n start state) []
by_workers zero start state = still state
by_workers (suc n) start state = both (by_workers n start state) (thread (with_workers n start state) (new_row start false false))

pub by_starts : (state : State) (n : ℕ) (worker : Option Start) → Moves state (starts state n worker) []
by_starts state n None = still state
by_starts state n (Some worker) = by_workers n worker state

-- ---- what happens to locks and channels ----

pub by_hold : (text : List ℕ) (t old new : ℕ) → Every OfOthers (hold_changed text t old new)
by_hold text t old new = go _ _
  where
    go : (a b : Bool) → Every OfOthers (if a then GetsHold text t ∷ [] else (if b then Frees text t ∷ [] else []))
    go true b = (tt, tt)
    go false true = (tt, tt)
    go false false = tt

-- ---- a send ----

with_next : (state : State) (t target : ℕ) (mode : Mode) (variable : Option (List ℕ)) →
    AreWithPost (recipient_of mode variable) state.posts (posts_with_next state.posts t target mode variable) t target
with_next state t target Waits variable = refl
with_next state t target Later None = refl
with_next state t target Later (Some name) = (name, refl)

by_sends_to : (state : State) (t target : ℕ) (script : List ℕ) (mode : Mode) (variable : Option (List ℕ)) (head : Bool) (events : List Event)
    → queue_of state.queues target ≡ Some events
    → Moves state (sends_to state t target script mode variable head).state (Posted state.posts.next t target (recipient_of mode variable) head ∷ [])
by_sends_to state t target script mode variable head events there =
    let placed = script_mail state.queues target head state.posts.next script (is_answered mode variable) false events there in
    one (sent t target (recipient_of mode variable) head placed (with_next state t target mode variable) refl)

by_linked : (state : State) (t target : ℕ) (script : List ℕ) (mode : Mode) (variable : Option (List ℕ)) (head : Bool) (events : List Event)
    → queue_of state.queues target ≡ Some events
    → Moves state (sends_linked state t target script mode variable head).state
    (send_happenings t (Some target) (recipient_of mode variable) head (sends_linked state t target script mode variable head).gives.reply)
by_linked state t target script Waits variable head events there = go (target == t)
  where
    go : (b : Bool) → Moves state (if b then is_not_asked state else sends_to state t target script Waits variable head).state
        (send_happenings t (Some target) (recipient_of Waits variable) head
        (if b then is_not_asked state else sends_to state t target script Waits variable head).gives.reply)
    go true = still state
    go false = by_sends_to state t target script Waits variable head events there
by_linked state t target script Later variable head events there = by_sends_to state t target script Later variable head events there

pub by_sends : (state : State) (t : ℕ) (text script : List ℕ) (mode : Mode) (variable : Option (List ℕ)) (head : Bool) → HaveQueues state →
    Moves state (sends state t text script mode variable head).state
    (send_happenings t (linked_thread state.rows text) (recipient_of mode variable) head (sends state t text script mode variable head).gives.reply)
by_sends state t text script mode variable head have = go (is_asked mode variable) (linked_thread state.rows text) refl
  where
    go : (b : Bool) (target : Option ℕ) → linked_thread state.rows text ≡ target
        → Moves state (if b then sends_named state t text script mode variable head target else is_not_asked state).state
        (send_happenings t target (recipient_of mode variable) head
        (if b then sends_named state t text script mode variable head target else is_not_asked state).gives.reply)
    go true None is = still state
    go true (Some target) is =
        let linked = linked_is state.rows text target is in
        let queue = has_queue state.queues state.rows target linked.row have linked.there in
        by_linked state t target script mode variable head queue.0 queue.1
    go false None is = still state
    go false (Some target) is = still state

-- a post whose answer nobody asks for
pub by_tells : (state : State) (from target : ℕ) (script : List ℕ) (plain : Bool) (row : Row) → HaveQueues state → row_of state.rows target ≡ Some row
    → Moves state (tells state target script plain) (Posted state.posts.next from target Nobody false ∷ [])
by_tells state from target script plain row have there =
    let queue = has_queue state.queues state.rows target row have there in
    one (sent from target Nobody false (script_mail state.queues target false state.posts.next script false plain queue.0 queue.1) refl refl)

pub linked_row : (found : Option Row) → is_linked_row found ≡ true → (row : Row) × (found ≡ Some row)
linked_row None is = absurd (cc is)
linked_row (Some row) is = (row, refl)

in_use : (state : State) (plain : Bool) (all : Option ErrorProcedure) (procedure : ErrorProcedure) → procedure_in_use state plain all ≡ Some procedure →
    is_linked_row (row_of state.rows procedure.thread) ≡ true
in_use state plain None procedure is = absurd (cc is)
in_use state plain (Some first) procedure is = go (not plain) (is_linked_row (row_of state.rows first.thread)) refl is
  where
    go : (a b : Bool) → is_linked_row (row_of state.rows first.thread) ≡ b → (if a && b then Some first else None) ≡ Some procedure →
        is_linked_row (row_of state.rows procedure.thread) ≡ true
    go true true linked is =
        let alike : first ≡ procedure = cc is in
        subst (λ it. is_linked_row (row_of state.rows it.thread) ≡ true) alike linked
    go true false linked is = absurd (cc is)
    go false b linked is = absurd (cc is)

pub by_reports : (state : State) (t : ℕ) (trace : List ℕ) (plain : Bool) → HaveQueues state
    → Moves state (reports_to state t trace (procedure_in_use state plain state.error_procedure)).state
    (report_happenings state t (procedure_in_use state plain state.error_procedure))
by_reports state t trace plain have = go (procedure_in_use state plain state.error_procedure) refl
  where
    go : (procedure : Option ErrorProcedure) → procedure_in_use state plain state.error_procedure ≡ procedure
        → Moves state (reports_to state t trace procedure).state (report_happenings state t procedure)
    go None is = still state
    go (Some procedure) is =
        let row = linked_row (row_of state.rows procedure.thread) (in_use state plain state.error_procedure procedure is) in
        by_tells state t procedure.thread _ true row.0 have row.1

-- ---- an answer ----

pub by_awaits : (state : State) (t n : ℕ) (found : Option Slot) → slot_of state.posts.slots n ≡ found
    → Moves state (awaits_at state t n found).state (got t n (awaits_at state t n found).gives.reply)
by_awaits state t n None there = still state
by_awaits state t n (Some found) there = go (found.sender == t) refl
  where
    taking : found.sender ≡ t → (filling : SlotState) → found.state ≡ filling
        → Moves state (takes_answer state n filling).state (got t n (takes_answer state n filling).gives.reply)
    taking mine slot.Waiting is = quietly state _ refl refl refl
    taking mine (slot.Result outcome) is =
        one (gets n t found (reply.Answer outcome) there mine (subst (λ filling. Answers filling (reply.Answer outcome)) (sym is) (result outcome)) refl
        (ap (λ filling. record state.posts { slots = after_take state.posts.slots n filling }) (sym is)) refl)
    taking mine slot.Died is =
        one (gets n t found reply.Died there mine (subst (λ filling. Answers filling reply.Died) (sym is) died) refl
        (ap (λ filling. record state.posts { slots = after_take state.posts.slots n filling }) (sym is)) refl)

    go : (b : Bool) → (found.sender == t) ≡ b → Moves state (if b then takes_answer state n found.state else is_not_asked state).state
        (got t n (if b then takes_answer state n found.state else is_not_asked state).gives.reply)
    go true is = taking (same found.sender t is) found.state refl
    go false is = still state

-- the state without a post whose answer went to its variable, and with an outcome in a slot
abbrev without_post : State → ℕ → State
without_post state n = record state { posts = without_variable state.posts n }

abbrev with_outcome : State → ℕ → Outcome → State
with_outcome state n outcome = record state { posts = record state.posts { slots = with_state state.posts.slots n (slot.Result outcome) } }

by_value : (state : State) (t n : ℕ) (outcome : Outcome) (found : Option VariablePost) → slot_of state.posts.slots n ≡ None
    → variable_post state.posts n ≡ found
    → Moves state (delivers_value state t n outcome found).state (answer_happenings state n outcome (delivers_value state t n outcome found).gives.reply)
by_value state t n outcome None none there = still state
by_value state t n outcome (Some post) none there = go (is_target t (Some post))
  where
    told : (b : Bool)
        → Move state (if b then state_with_event (without_post state n) post.sender false (event.SetVar post.name outcome.value)
        else without_post state n)
        (Finished n outcome ∷ (if b then Set n post.sender outcome.value ∷ [] else []))
    told true = sets n outcome post true there (other_mail state.queues post.sender false (event.SetVar post.name outcome.value) (λ numbers. refl)) refl refl
    told false = sets n outcome post false there (λ u. refl) refl refl

    happened : Finished n outcome ∷ (if is_living state.rows post.sender then Set n post.sender outcome.value ∷ [] else [])
        ≡ Finished n outcome ∷ slot_happenings state n outcome.value (slot_of state.posts.slots n)
    happened =
        ap (λ it. Finished n outcome ∷ variable_happenings state.rows n outcome.value it) (sym there)
        ∙ ap (λ it. Finished n outcome ∷ slot_happenings state n outcome.value it) (sym none)

    go : (b : Bool) → Moves state
        (if b then answers (sets_variable (without_post state n) post outcome.value) (reply_to_server state t outcome) else is_not_asked state).state
        (answer_happenings state n outcome
        (if b then answers (sets_variable (without_post state n) post outcome.value) (reply_to_server state t outcome) else is_not_asked state).gives.reply)
    go true =
        subst (Moves state (sets_variable (without_post state n) post outcome.value)) happened
        (one (told (is_living state.rows post.sender)))
    go false = still state

pub by_delivers : (state : State) (t n : ℕ) (outcome : Outcome) (found : Option Slot) → slot_of state.posts.slots n ≡ found
    → Moves state (delivers_at state t n outcome found).state (answer_happenings state n outcome (delivers_at state t n outcome found).gives.reply)
by_delivers state t n outcome None there = by_value state t n outcome (variable_post state.posts n) there refl
by_delivers state t n outcome (Some found) there = go (found.target == t) (is_waiting found.state) refl
  where
    go : (a b : Bool) → is_waiting found.state ≡ b
        → Moves state (if a && b then answers (with_outcome state n outcome) (reply_to_server state t outcome)
        else is_not_asked state).state
        (answer_happenings state n outcome
        (if a && b then answers (with_outcome state n outcome) (reply_to_server state t outcome)
        else is_not_asked state).gives.reply)
    go true true is =
        subst (λ it. Moves state (with_outcome state n outcome)
        (Finished n outcome ∷ slot_happenings state n outcome.value it)) (sym there) (one (fills n outcome found there is refl refl refl))
    go true false is = still state
    go false b is = still state

-- ---- an event that is taken ----

as_before : (old new : Queues) (t : ℕ) (numbers : List ℕ) → SameBut old new t numbers → numbers ≡ scripts_at old t → SameScripts old new
as_before old new t numbers but is u =
    by_thread (λ found. found ≡ scripts_at old u) old new t u numbers but (λ alike. is ∙ ap (scripts_at old) (sym alike)) (λ other. refl)

pub taking : (state : State) (t : ℕ) (what : Event) (events : List Event) → queue_of state.queues t ≡ Some (what ∷ events)
    → takes state t ≡ answers (come (record state { queues = with_queue state.queues t events }) t what) (reply.Event what)
taking state t what events there =
    ap (λ found. takes_first state t (first_in found)) there
    ∙ ap (λ found. answers (come (record state { queues = without_first_in state.queues t found }) t what) (reply.Event what)) there

pub by_takes : (state : State) (t : ℕ) → is_living state.rows t ≡ true → Moves state (takes state t).state (begin_happenings t (takes state t).gives.reply)
by_takes state t lives = go (queue_of state.queues t) refl
  where
    other : (what : Event) (events : List Event) → IsNoScript what → queue_of state.queues t ≡ Some (what ∷ events)
        → Moves state (record state { queues = with_queue state.queues t events }) []
    other what events is there =
        let numbers = sym (ap scripts_in there ∙ is (scripts events)) in
        let left = as_before state.queues (with_queue state.queues t events) t (scripts events) (taken state.queues t what events there) numbers in
        one (quiet [] tt left refl (stay_same state.rows))

    first : (what : Event) (events : List Event) → queue_of state.queues t ≡ Some (what ∷ events)
        → Moves state (come (record state { queues = with_queue state.queues t events }) t what) (begin_happenings t (reply.Event what))
    first (event.Script n text answer plain) events there =
        one (begins n t (scripts events) (ap scripts_in there) (taken state.queues t _ events there) (living_not_ended state.rows t lives) refl refl)
    first (event.SetVar name value) events there = other _ events (λ numbers. refl) there
    first (event.Moved channel) events there = both (other (event.Moved channel) events (λ numbers. refl) there) (quietly _ _ refl refl refl)
    first (event.Timer n script) events there = other _ events (λ numbers. refl) there
    first event.Stop events there = other _ events (λ numbers. refl) there

    go : (found : Option (List Event)) → queue_of state.queues t ≡ found → Moves state (takes state t).state (begin_happenings t (takes state t).gives.reply)
    go None there = rw there (still state)
    go (Some []) there = rw there (still state)
    go (Some (what ∷ events)) there =
        subst (λ acted. Moves state acted.state (begin_happenings t acted.gives.reply)) (sym (taking state t what events there)) (first what events there)

-- ---- the end of a thread ----

tell_one : (rows : List Row) (t : ℕ) (queues : Queues) (post : VariablePost) → SameScripts queues (with_died_event rows t queues post)
tell_one rows t queues post = go (hears rows t post)
  where
    go : (b : Bool) → SameScripts queues (if b then queues_with_event queues post.sender false (end_event post.name) else queues)
    go true = other_mail queues post.sender false (end_event post.name) (λ numbers. refl)
    go false = λ u. refl

tell : (rows : List Row) (t : ℕ) (posts : List VariablePost) (queues : Queues) → SameScripts queues (tells_died rows t posts queues)
tell rows t [] queues u = refl
tell rows t (post ∷ posts) queues u = tell rows t posts (with_died_event rows t queues post) u ∙ tell_one rows t queues post u

pub by_end : (state : State) (t : ℕ) (code : ℤ) → is_living state.rows t ≡ true → Moves state (state_after_end state t code) (deaths state t)
by_end state t code lives =
    let queues = tells_died state.rows t (values_of state.posts.variables) state.queues in
    let left = emptied queues t in
    let told = tell state.rows t (values_of state.posts.variables) state.queues in
    let but : SameBut state.queues (state_after_end state t code).queues t [] = record { here = left.here; others = λ u other. left.others u other ∙ told u } in
    one (ends t but refl (end_ends state.rows t code lives) (end_stays state.rows t code))

-- ---- requests on threads ----

pub by_rows : (state : State) (t : ℕ) (request : Request) → Moves state (record state { rows = (threads.act state.rows t request).rows }) []
by_rows state t request = in_rows state _ (by_threads state.rows t request)
