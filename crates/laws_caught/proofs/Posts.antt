-- How actions change the posts that wait for an answer.
use Rattle.std.proofs.Common.{◌≡◌, ◌∙◌, ◌==◌, ℕ, zero, suc, Bool, true, false, if◌then◌else◌, List, length, Option, Some, None, refl, ap, sym, subst}
use Rattle.tt_calls.specs.declared.chan_call.ChanCall.{ChanCall}
use Rattle.tt_calls.specs.declared.chan_call.ChanCall.TheVariants as chan
use Rattle.tt_calls.specs.declared.event.Event.{Event}
use Rattle.tt_calls.specs.declared.event.Event.TheVariants as event
use Rattle.tt_calls.specs.declared.outcome.Outcome.{Outcome}
use Rattle.tt_calls.specs.declared.reply.Reply.{Reply}
use Rattle.tt_calls.specs.declared.reply.Reply.TheVariants as reply
use Rattle.tt_calls.specs.declared.reply.Step.{Step}
use Rattle.tt_calls.specs.declared.reply.Step.TheVariants as step
use Rattle.tt_calls.specs.declared.request.Mode.{Mode}
use Rattle.tt_calls.specs.declared.request.Mode.TheVariants.{Waits, Later}
use Rattle.tt_calls.specs.declared.request.Request.{Request}
use Rattle.tt_calls.specs.declared.request.Request.TheVariants as ask
use Rattle.tt_calls.specs.declared.start.Start.{Start}
use Rattle.tt_pools.specs.Calls as pools
use Rattle.tt_pools.specs.declared.step.PoolStep.{PoolStep}
use Rattle.tt_shared.specs.Acts.{act, creates, gives_of, has_newline, moves, reads, starts, stops_unheld, with_workers}
use Rattle.tt_shared.specs.Mail.{Posts, first_of, posts_after, posts_with_next, variable_post, with_plain, without_variable}
use Rattle.tt_shared.specs.Sends.{awaits_at, broadcasts_to, come, delivers_at, delivers_value, is_asked, is_due, is_target, names_procedure}
use Rattle.tt_shared.specs.Sends.{procedure_in_use, reports_to, sends, sends_linked, sends_named, sets, takes, takes_first, tells}
use Rattle.tt_shared.specs.State.{Acted, State, is_marked, room, with_thread}
use Rattle.tt_shared.specs.declared.applied.Line.{Line}
use Rattle.tt_shared.specs.declared.applied.Line.TheVariants as line
use Rattle.tt_shared.specs.declared.posts.VariablePost.{VariablePost}
use Rattle.tt_shared.specs.declared.reports.ErrorProcedure.{ErrorProcedure}
use Rattle.tt_slots.specs.Waiting.{after_take, slot_of, with_state}
use Rattle.tt_slots.specs.declared.slot.Slot.{Slot}
use Rattle.tt_slots.specs.declared.slot.SlotState.TheVariants as slot
use Rattle.tt_threads.specs.Requests as threads
use Rattle.tt_threads.specs.Rows.{linked_thread, new_row}
use Rattle.tt_threads.specs.declared.row.Row.{Row}

-- ---- what leaves the posts ----

by_if : (b : Bool) (one other : Acted) (kept : Posts) → one.state.posts ≡ kept → other.state.posts ≡ kept → (if b then one else other).state.posts ≡ kept
by_if true one other kept first second = first
by_if false one other kept first second = second

either : (b : Bool) (one other : State) (kept : Posts) → one.posts ≡ kept → other.posts ≡ kept → (if b then one else other).posts ≡ kept
either true one other kept first second = first
either false one other kept first second = second

by_reads : (state : State) (line : Line) → (reads state line).state.posts ≡ state.posts
by_reads state line.NotRead = refl
by_reads state (line.Read text) = by_if (has_newline text) _ _ _ refl refl
by_reads state line.End = refl
by_reads state line.TooLong = refl

by_thread : (state : State) (row : Row) → (with_thread state row).posts ≡ state.posts
by_thread state row = either _ _ _ _ refl refl

by_creates : (state : State) (joinable preserved : Bool) (script : List ℕ) → (creates state joinable preserved script).state.posts ≡ state.posts
by_creates state joinable preserved script = by_if _ _ _ _ (by_thread state _) refl

by_stops : (state : State) (number : Option ℕ) → (stops_unheld state number).posts ≡ state.posts
by_stops state None = refl
by_stops state (Some number) = either _ _ _ _ refl refl

by_names : (state : State) (t : ℕ) (name : Option (List ℕ)) → (names_procedure state t name).state.posts ≡ state.posts
by_names state t None = refl
by_names state t (Some name) = refl

by_come : (state : State) (t : ℕ) (taken : Event) → (come state t taken).posts ≡ state.posts
by_come state t (event.Moved channel) = refl
by_come state t taken = refl

by_first : (state : State) (t : ℕ) (found : Option Event) → (takes_first state t found).state.posts ≡ state.posts
by_first state t None = refl
by_first state t (Some taken) = by_come _ t taken

by_takes : (state : State) (t : ℕ) → (takes state t).state.posts ≡ state.posts
by_takes state t = by_first state t (first_of state.queues t)

by_workers : (n : ℕ) (start : Start) (state : State) → (with_workers n start state).posts ≡ state.posts
by_workers zero start state = refl
by_workers (suc n) start state = by_thread (with_workers n start state) (new_row start false false) ∙ by_workers n start state

by_starts : (state : State) (n : ℕ) (worker : Option Start) → (starts state n worker).posts ≡ state.posts
by_starts state n None = refl
by_starts state n (Some worker) = by_workers n worker state

by_gives : (state : State) (t : ℕ) (gives : PoolStep) → (gives_of state t gives).state.posts ≡ state.posts
by_gives state t gives = go gives.step refl
  where
    go : (one : Step) → gives.step ≡ one → (gives_of state t gives).state.posts ≡ state.posts
    go step.Wait is = rw is (by_takes state t)
    go (step.Reply told) is = rw is (by_starts state gives.start gives.worker)

by_moves : (state : State) (call : ChanCall) (target : Option ℕ) (told : Reply) → (moves state call target told).posts ≡ state.posts
by_moves state (chan.Transfer text channel) (Some target) reply.Go = refl
by_moves state call target told = refl

by_sets : (state : State) (post : VariablePost) (value : List ℕ) → (sets state post value).posts ≡ state.posts
by_sets state post value = either _ _ _ _ refl refl

-- ---- what changes them ----

module _ (P : Posts → Type 0) (state : State) (t : ℕ) (same : P state.posts)
    (more : (target : ℕ) (mode : Mode) (variable : Option (List ℕ)) → P (posts_with_next state.posts t target mode variable))
    (plain : (posts : Posts) → P posts → P (with_plain posts))
    (gets : (n : ℕ) (found : Slot) → slot_of state.posts.slots n ≡ Some found → (found.sender == t) ≡ true →
    P (record state.posts { slots = after_take state.posts.slots n found.state }))
    (fills : (n : ℕ) (outcome : Outcome) (found : Slot) → slot_of state.posts.slots n ≡ Some found → is_due t found ≡ true →
    P (record state.posts { slots = with_state state.posts.slots n (slot.Result outcome) }))
    (told : (n : ℕ) → P (without_variable state.posts n)) (ends : P (posts_after state.posts t)) where
  choose : (b : Bool) (one other : Acted) → (b ≡ true → P one.state.posts) → P other.state.posts → P (if b then one else other).state.posts
  choose true one other first second = first refl
  choose false one other first second = second

  by_linked : (target : ℕ) (script : List ℕ) (mode : Mode) (variable : Option (List ℕ)) (head : Bool) →
      P (sends_linked state t target script mode variable head).state.posts
  by_linked target script Waits variable head = choose _ _ _ (λ is. same) (more target Waits variable)
  by_linked target script Later variable head = more target Later variable

  by_named : (text script : List ℕ) (mode : Mode) (variable : Option (List ℕ)) (head : Bool) (target : Option ℕ) →
      P (sends_named state t text script mode variable head target).state.posts
  by_named text script mode variable head None = same
  by_named text script mode variable head (Some target) = by_linked target script mode variable head

  by_sends : (text script : List ℕ) (mode : Mode) (variable : Option (List ℕ)) (head : Bool) → P (sends state t text script mode variable head).state.posts
  by_sends text script mode variable head =
      choose (is_asked mode variable) _ _ (λ is. by_named text script mode variable head (linked_thread state.rows text)) same

  by_awaits : (n : ℕ) (found : Option Slot) → slot_of state.posts.slots n ≡ found → P (awaits_at state t n found).state.posts
  by_awaits n None is = same
  by_awaits n (Some found) is = choose (found.sender == t) _ _ (λ own. gets n found is own) same

  by_value : (n : ℕ) (outcome : Outcome) (found : Option VariablePost) → P (delivers_value state t n outcome found).state.posts
  by_value n outcome None = same
  by_value n outcome (Some post) = choose (is_target t (Some post)) _ _ (λ is. subst P (sym (by_sets _ post outcome.value)) (told n)) same

  by_delivers : (n : ℕ) (outcome : Outcome) (found : Option Slot) → slot_of state.posts.slots n ≡ found → P (delivers_at state t n outcome found).state.posts
  by_delivers n outcome None is = by_value n outcome (variable_post state.posts n)
  by_delivers n outcome (Some found) is = choose (is_due t found) _ _ (λ due. fills n outcome found is due) same

  by_reports : (trace : List ℕ) (procedure : Option ErrorProcedure) → P (reports_to state t trace procedure).state.posts
  by_reports trace None = same
  by_reports trace (Some procedure) = plain state.posts same

  by_broadcasts : (count : ℕ) (script : List ℕ) → P (broadcasts_to count t script state).posts
  by_broadcasts zero script = same
  by_broadcasts (suc n) script = go _ (by_broadcasts n script)
    where
      go : (b : Bool) → P (broadcasts_to n t script state).posts →
          P (if b then tells (broadcasts_to n t script state) (suc n) script false else broadcasts_to n t script state).posts
      go true before = plain (broadcasts_to n t script state).posts before
      go false before = before

  pub by_posts : (request : Request) (line : Line) → P (act state t request line).state.posts
  by_posts ask.ReadLine line = subst P (sym (by_reads state line)) same
  by_posts (ask.Create joinable preserved script) line = subst P (sym (by_creates state joinable preserved script)) same
  by_posts (ask.Release text) line = subst P (sym (by_stops _ (threads.thread_named state.rows t text))) same
  by_posts (ask.ErrorProc name) line = subst P (sym (by_names state t name)) same
  by_posts (ask.Send text script mode variable head) line = by_sends text script mode variable head
  by_posts (ask.Await n) line = by_awaits n (slot_of state.posts.slots n) refl
  by_posts ask.Take line = subst P (sym (by_takes state t)) same
  by_posts ask.TakeReady line = subst P (sym (by_takes state t)) same
  by_posts (ask.Deliver n outcome) line = by_delivers n outcome (slot_of state.posts.slots n) refl
  by_posts (ask.Report trace plain) line = by_reports trace (procedure_in_use state plain state.error_procedure)
  by_posts (ask.Broadcast script) line = by_broadcasts (length state.rows) script
  by_posts (ask.Pool call) line =
      let answered = pools.act_or_wait state.pools t (room state) (is_marked state t) call in
      subst P (sym (by_gives (record state { pools = answered.table }) t answered.gives)) same
  by_posts (ask.Chan call) line = subst P (sym (by_moves _ call _ _)) same
  by_posts (ask.End code) line = ends
  by_posts (ask.WriteOut text) line = same
  by_posts (ask.WriteErr text) line = same
  by_posts ask.StdinEof line = same
  by_posts (ask.Tsv call) line = same
  by_posts (ask.Lock call) line = same
  by_posts (ask.DropTimer number) line = same
  by_posts ask.AwaitTime line = same
  by_posts ask.Pause line = same
  by_posts (ask.Exit code) line = same
  by_posts request line = same
