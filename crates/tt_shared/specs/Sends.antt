-- What sends, events and their answers do (thread(n), thread::send, thread::broadcast, thread::errorproc,
-- thread::wait).
use Rattle.std.specs.Prelude.{ℕ, zero, suc, length, ◌==◌, ◌&&◌, not, Bool, true, false, List, [], ◌∷◌, ◌++◌, codes}
use Rattle.std.specs.Prelude.{Option, Some, None, is_some, if◌then◌else◌}
use Rattle.tt_calls.specs.declared.event.Event.{Event}
use Rattle.tt_calls.specs.declared.event.Event.TheVariants as event
use Rattle.tt_calls.specs.declared.outcome.Code.{Code}
use Rattle.tt_calls.specs.declared.outcome.Code.TheVariants.{Fine, Failed, Returned, Broke, Continued}
use Rattle.tt_calls.specs.declared.outcome.Outcome.{Outcome}
use Rattle.tt_calls.specs.declared.reply.Reply.{Reply}
use Rattle.tt_calls.specs.declared.reply.Reply.TheVariants as reply
use Rattle.tt_calls.specs.declared.request.Mode.{Mode}
use Rattle.tt_calls.specs.declared.request.Mode.TheVariants.{Waits, Later}
use Rattle.tt_chans.specs.Channels as channels
use Rattle.tt_ids.specs.Ids.{id}
use Rattle.tt_ids.specs.declared.id.IdKind.TheVariants.{Thread}
use Rattle.tt_lists.specs.Spelling.{list_of}
use Rattle.tt_shared.specs.Mail.{first_of, is_answered, posts_with_next, queues_with_event, variable_post, with_plain}
use Rattle.tt_shared.specs.Mail.{without_first}
use Rattle.tt_shared.specs.Mail.{without_variable}
use Rattle.tt_shared.specs.State.{Acted, State, answer, answers, is_not_asked, no_thread, refuses}
use Rattle.tt_shared.specs.declared.posts.VariablePost.{VariablePost}
use Rattle.tt_shared.specs.declared.reports.ErrorProcedure.{ErrorProcedure}
use Rattle.tt_slots.specs.Waiting.{after_take, is_waiting, slot_of, with_state}
use Rattle.tt_slots.specs.declared.slot.Slot.{Slot}
use Rattle.tt_slots.specs.declared.slot.SlotState.{SlotState}
use Rattle.tt_slots.specs.declared.slot.SlotState.TheVariants as slot
use Rattle.tt_threads.specs.Rows.{is_linked, is_living, linked_thread, row_of}
use Rattle.tt_threads.specs.declared.row.Row.{Row}

-- ---- thread::send ----

-- an event for a thread, at its queue's tail or head
abbrev pub state_with_event : State → (target : ℕ) → (head : Bool) → Event → State
state_with_event state target head event = record state { queues = queues_with_event state.queues target head event }

abbrev pub sends_to :
    State → (t target : ℕ) → (script : List ℕ) → Mode → Option (List ℕ) → (head : Bool) → Acted
sends_to state t target script mode variable head =
    let script_event = event.Script state.posts.next script (is_answered mode variable) false in
    let posts = posts_with_next state.posts t target mode variable in
    answers (state_with_event (record state { posts = posts }) target head script_event) (reply.Posted state.posts.next)

-- a send to oneself that is waited for is none that a command asks
abbrev pub sends_linked :
    State → (t target : ℕ) → (script : List ℕ) → Mode → Option (List ℕ) → (head : Bool) → Acted
sends_linked state t target script Waits variable head =
    if target == t then is_not_asked state else sends_to state t target script Waits variable head
sends_linked state t target script Later variable head = sends_to state t target script Later variable head

abbrev pub sends_named :
    State → ℕ → (text script : List ℕ) → Mode → Option (List ℕ) → Bool → Option ℕ → Acted
sends_named state t text script mode variable head None = refuses state (no_thread text)
sends_named state t text script mode variable head (Some target) = sends_linked state t target script mode variable head

-- nor is one that is waited for and names a variable
abbrev pub is_asked : Mode → (variable : Option (List ℕ)) → Bool
is_asked Waits variable = not (is_some variable)
is_asked Later variable = true

abbrev pub sends : State → ℕ → (text script : List ℕ) → Mode → Option (List ℕ) → (head : Bool) → Acted
sends state t text script mode variable head =
    if is_asked mode variable
    then sends_named state t text script mode variable head (linked_thread state.rows text)
    else is_not_asked state

-- ---- its answer ----

-- what the sender is answered by its slot
abbrev pub slot_reply : SlotState → Reply
slot_reply slot.Waiting = reply.Refused []
slot_reply (slot.Result outcome) = reply.Answer outcome
slot_reply slot.Died = reply.Died

abbrev pub takes_answer : State → ℕ → SlotState → Acted
takes_answer state n found =
    let slots = after_take state.posts.slots n found in
    answers (record state { posts = record state.posts { slots = slots } }) (slot_reply found)

-- the thread's own slot, once
abbrev pub awaits_at : State → (t n : ℕ) → Option Slot → Acted
awaits_at state t n None = is_not_asked state
awaits_at state t n (Some found) =
    if found.sender == t then takes_answer state n found.state else is_not_asked state

abbrev pub awaits : State → (t n : ℕ) → Acted
awaits state t n = awaits_at state t n (slot_of state.posts.slots n)

-- whether an error stops the thread (thread::configure -unwindonerror)
abbrev pub unwinds_row : Option Row → Bool
unwinds_row None = false
unwinds_row (Some row) = row.unwind

abbrev pub unwinds : State → ℕ → Bool
unwinds state t = unwinds_row (row_of state.rows t)

abbrev pub is_failed : Code → Bool
is_failed Fine = false
is_failed Failed = true
is_failed Returned = false
is_failed Broke = false
is_failed Continued = false

abbrev pub reply_to_server : State → ℕ → Outcome → Reply
reply_to_server state t outcome = reply.Served (is_failed outcome.code && unwinds state t)

-- the variable is set by an event of its own, if the sender has not ended
abbrev pub sets : State → VariablePost → (value : List ℕ) → State
sets state post value =
    if is_living state.rows post.sender
    then state_with_event state post.sender false (event.SetVar post.name value)
    else state

abbrev pub is_target : ℕ → Option VariablePost → Bool
is_target t None = false
is_target t (Some post) = post.target == t

abbrev pub delivers_value : State → (t n : ℕ) → Outcome → Option VariablePost → Acted
delivers_value state t n outcome None = is_not_asked state
delivers_value state t n outcome (Some post) =
    if is_target t (Some post)
    then
    (let rest = record state { posts = without_variable state.posts n } in
    answers (sets rest post outcome.value) (reply_to_server state t outcome))
    else is_not_asked state

abbrev pub delivers_to : State → (t n : ℕ) → Outcome → Acted
delivers_to state t n outcome = delivers_value state t n outcome (variable_post state.posts n)

-- a slot that waits for this thread
abbrev pub is_due : ℕ → Slot → Bool
is_due t found = found.target == t && is_waiting found.state

abbrev pub delivers_at : State → (t n : ℕ) → Outcome → Option Slot → Acted
delivers_at state t n outcome None = delivers_to state t n outcome
delivers_at state t n outcome (Some found) =
    if is_due t found
    then
    (let slots = with_state state.posts.slots n (slot.Result outcome) in
    answers (record state { posts = record state.posts { slots = slots } }) (reply_to_server state t outcome))
    else is_not_asked state

-- the outcome goes to the slot that waits, or to the variable
abbrev pub delivers : State → (t n : ℕ) → Outcome → Acted
delivers state t n outcome = delivers_at state t n outcome (slot_of state.posts.slots n)

-- ---- events ----

-- a channel that has come is the thread's
abbrev pub come : State → ℕ → Event → State
come state t (event.Moved chan) =
    record state { channels = channels.after_arrival state.channels t chan (channels.channel_of state.channels chan) }
come state t other = state

-- the first event is answered
abbrev pub takes_first : State → ℕ → Option Event → Acted
takes_first state t None = answers state reply.NoEvent
takes_first state t (Some first) =
    answers (come (record state { queues = without_first state.queues t }) t first) (reply.Event first)

abbrev pub takes : State → ℕ → Acted
takes state t = takes_first state t (first_of state.queues t)

-- ---- thread::broadcast ----

-- a post more, whose answer nobody asks for
abbrev pub tells : State → (target : ℕ) → (script : List ℕ) → (plain : Bool) → State
tells state target script plain =
    let script_event = event.Script state.posts.next script false plain in
    state_with_event (record state { posts = with_plain state.posts }) target false script_event

abbrev pub is_linked_row : Option Row → Bool
is_linked_row None = false
is_linked_row (Some row) = is_linked row.life

abbrev pub tells_other : (t number : ℕ) → (script : List ℕ) → State → State
tells_other t number script state =
    if not (number == t) && is_linked_row (row_of state.rows number) then tells state number script false else state

-- the linked ones among the first threads but oneself, by number
abbrev pub broadcasts_to : (count : ℕ) → (t : ℕ) → (script : List ℕ) → State → State
broadcasts_to zero t script state = state
broadcasts_to (suc n) t script state = tells_other t (suc n) script (broadcasts_to n t script state)

abbrev pub broadcasts : State → ℕ → (script : List ℕ) → Acted
broadcasts state t script = answers (broadcasts_to (length state.rows) t script state) reply.Go

-- ---- thread::errorproc ----

-- a name is set with the thread that sets it, and the empty one unsets it
abbrev pub procedure_set : ℕ → (name : List ℕ) → Option ErrorProcedure
procedure_set t [] = None
procedure_set t (byte ∷ name) = Some (record { thread = t; name = byte ∷ name })

abbrev pub name_of : Option ErrorProcedure → List ℕ
name_of None = []
name_of (Some procedure) = procedure.name

abbrev pub names_procedure : State → ℕ → (name : Option (List ℕ)) → Acted
names_procedure state t None = answers state (reply.Value (name_of state.error_procedure))
names_procedure state t (Some name) = answers (record state { error_procedure = procedure_set t name }) reply.Go

-- the procedure of a linked thread
abbrev pub procedure_in_use : State → (plain : Bool) → Option ErrorProcedure → Option ErrorProcedure
procedure_in_use state plain None = None
procedure_in_use state plain (Some procedure) =
    if not plain && is_linked_row (row_of state.rows procedure.thread) then Some procedure else None

abbrev pub report_text : ℕ → (trace : List ℕ) → List ℕ
report_text t trace = codes "Error from thread " ++ (id Thread t ++ (10 ∷ (trace ++ 10 ∷ [])))

abbrev pub call_of : List ℕ → ℕ → (trace : List ℕ) → List ℕ
call_of name t trace = list_of (name ∷ id Thread t ∷ trace ∷ [])

abbrev pub reports_to : State → ℕ → (trace : List ℕ) → Option ErrorProcedure → Acted
reports_to state t trace None =
    let answered = answer state (reply.Served (unwinds state t)) in
    record { state = state; gives = record answered { err = report_text t trace } }
reports_to state t trace (Some procedure) =
    answers (tells state procedure.thread (call_of procedure.name t trace) true) (reply.Served (unwinds state t))

-- an error goes to that procedure as a plain script, or else to standard error
abbrev pub reports : State → ℕ → (trace : List ℕ) → (plain : Bool) → Acted
reports state t trace plain = reports_to state t trace (procedure_in_use state plain state.error_procedure)
