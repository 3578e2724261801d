-- What comes into the queues by an answer that is handed over, and by the end of a thread.
use Rattle.std.proofs.Common.{◌≡◌, ◌≢◌, ◌∙◌, ◌==◌, ◌&&◌, ℕ, ℤ, Bool, true, false, List, [], ◌∷◌, ◌++◌, length, flat_map, Option, Some, None, if◌then◌else◌}
use Rattle.std.proofs.Common.{ap, refl, sym, subst, append-nil, append_assoc, codes}
use Rattle.std.specs.Map.{values_of}
use Rattle.laws_sends.proofs.Cuts.{Every}
use Rattle.laws_shared.proofs.Arrivals.{many_mail}
use Rattle.laws_shared.proofs.Mild.{HaveQueues}
use Rattle.laws_shared.specs.Happenings.{Died, Finished, Happening, Set, answer_happenings, deaths, post_died, post_set, slot_died}
use Rattle.laws_shared.specs.Happenings.{slot_happenings, variable_happenings}
use Rattle.laws_shared.specs.KeptChannels.{events_in}
use Rattle.laws_variables.proofs.Mailed.{emptied_others, flat_set_none, living_queue, mail_at, set-append}
use Rattle.laws_variables.proofs.Runs.{Finds}
use Rattle.laws_variables.specs.VariableEvents.{event_of_post, events_at, set_events}
use Rattle.tt_calls.specs.declared.event.Event.TheVariants as event
use Rattle.tt_calls.specs.declared.outcome.Outcome.{Outcome}
use Rattle.tt_shared.specs.Ends.{end_event, hears, state_after_end, tells_died}
use Rattle.tt_shared.specs.Mail.{Queues, is_owed, queue_of, queues_with_event, variable_post, without_variable}
use Rattle.tt_shared.specs.Sends.{delivers_at, delivers_value, is_due, is_target, reply_to_server, sets, state_with_event}
use Rattle.tt_shared.specs.State.{State, answers, is_not_asked}
use Rattle.tt_shared.specs.declared.posts.VariablePost.{VariablePost}
use Rattle.tt_slots.specs.Waiting.{slot_of, with_state}
use Rattle.tt_slots.specs.declared.slot.Slot.{Slot}
use Rattle.tt_slots.specs.declared.slot.SlotState.TheVariants as slot
use Rattle.tt_threads.specs.Rows.{is_living}

-- the queue of thread t has those events more by which variables are set
abbrev pub Comes : (state new : State) (t : ℕ) → List Happening → Type 0
Comes state new t happened = events_at new t ≡ events_at state t ++ set_events state t happened

none_comes : (state : State) (t : ℕ) → Comes state state t []
none_comes state t = sym (append-nil (events_at state t))

-- the event of a post that is there
of_post : (state : State) (n t sender : ℕ) (value : List ℕ) (post : VariablePost) → variable_post state.posts n ≡ Some post
    → set_events state t (Set n sender value ∷ []) ≡ (if sender == t then event.SetVar post.name value ∷ [] else [])
of_post state n t sender value post there =
    append-nil _ ∙ ap (λ found. if sender == t then event_of_post value found else []) there

-- ---- an answer ----

abbrev without_post : State → ℕ → State
without_post state n = record state { posts = without_variable state.posts n }

module _ (state : State) (have : HaveQueues state) (t u n : ℕ) (outcome : Outcome) where
  told : (post : VariablePost) → variable_post state.posts n ≡ Some post → (b : Bool) → is_living state.rows post.sender ≡ b
      → Comes state (if b then state_with_event (without_post state n) post.sender false (event.SetVar post.name outcome.value) else without_post state n) t
      (Finished n outcome ∷ (if b then Set n post.sender outcome.value ∷ [] else []))
  told post there false is = none_comes state t
  told post there true is =
      let queue = living_queue state.queues state.rows post.sender have is in
      mail_at state.queues post.sender t (event.SetVar post.name outcome.value) queue.0 queue.1
      ∙ ap (λ events. events_at state t ++ events) (sym (of_post state n t post.sender outcome.value post there))

  by_value : (found : Option VariablePost) → slot_of state.posts.slots n ≡ None → variable_post state.posts n ≡ found
      → Comes state (delivers_value state u n outcome found).state t (answer_happenings state n outcome (delivers_value state u n outcome found).gives.reply)
  by_value None none there = none_comes state t
  by_value (Some post) none there = go (is_target u (Some post))
    where
      happened : Finished n outcome ∷ (if is_living state.rows post.sender then Set n post.sender outcome.value ∷ [] else [])
          ≡ Finished n outcome ∷ slot_happenings state n outcome.value (slot_of state.posts.slots n)
      happened =
          ap (λ it. Finished n outcome ∷ variable_happenings state.rows n outcome.value it) (sym there)
          ∙ ap (λ it. Finished n outcome ∷ slot_happenings state n outcome.value it) (sym none)

      go : (b : Bool) → Comes state
          (if b then answers (sets (without_post state n) post outcome.value) (reply_to_server state u outcome) else is_not_asked state).state t
          (answer_happenings state n outcome
          (if b then answers (sets (without_post state n) post outcome.value) (reply_to_server state u outcome) else is_not_asked state).gives.reply)
      go true = subst (Comes state (sets (without_post state n) post outcome.value) t) happened (told post there (is_living state.rows post.sender) refl)
      go false = none_comes state t

  pub by_answer : (found : Option Slot) → slot_of state.posts.slots n ≡ found
      → Comes state (delivers_at state u n outcome found).state t (answer_happenings state n outcome (delivers_at state u n outcome found).gives.reply)
  by_answer None there = by_value (variable_post state.posts n) there refl
  by_answer (Some found) there = go (is_due u found)
    where
      filled : State
      filled = record state { posts = record state.posts { slots = with_state state.posts.slots n (slot.Result outcome) } }

      go : (b : Bool) → Comes state (if b then answers filled (reply_to_server state u outcome) else is_not_asked state).state t
          (answer_happenings state n outcome (if b then answers filled (reply_to_server state u outcome) else is_not_asked state).gives.reply)
      go true = subst (λ it. Comes state filled t (Finished n outcome ∷ slot_happenings state n outcome.value it)) (sym there) (none_comes state t)
      go false = none_comes state t

-- ---- the end of a thread ----

both_true : (a b c : Bool) → (a && (b && c)) ≡ true → c ≡ true
both_true true true true is = refl
both_true true true false is = absurd (cc is)
both_true true false c is = absurd (cc is)
both_true false b c is = absurd (cc is)

module _ (state : State) (t u : ℕ) where
  tell : (entries : List (ℕ × VariablePost)) (queues : Queues) → Every (Finds state.posts.variables) entries → length queues ≡ length state.rows
      → events_in (queue_of (tells_died state.rows u (values_of entries) queues) t)
      ≡ events_in (queue_of queues t) ++ set_events state t (flat_map (post_set state.rows u) entries)
  tell [] queues found have = sym (append-nil (events_in (queue_of queues t)))
  tell (entry ∷ entries) queues found have = go (hears state.rows u entry.1) refl (λ next long. tell entries next found.1 long)
    where
      rest : List Happening
      rest = flat_map (post_set state.rows u) entries

      go : (b : Bool) → hears state.rows u entry.1 ≡ b
          → ((next : Queues) → length next ≡ length state.rows → events_in (queue_of (tells_died state.rows u (values_of entries) next) t)
          ≡ events_in (queue_of next t) ++ set_events state t (flat_map (post_set state.rows u) entries))
          → events_in
          (queue_of
          (tells_died state.rows u (values_of entries) (if b then queues_with_event queues entry.1.sender false (end_event entry.1.name) else queues)) t)
          ≡ events_in (queue_of queues t)
          ++ set_events state t ((if b then Set entry.0 entry.1.sender (codes "target thread died") ∷ [] else []) ++ flat_map (post_set state.rows u) entries)
      go false is later = later queues have
      go true is later =
          let queue = living_queue queues state.rows entry.1.sender have (both_true _ _ _ is) in
          let one = end_event entry.1.name in
          let next = queues_with_event queues entry.1.sender false one in
          let first = mail_at queues entry.1.sender t one queue.0 queue.1 in
          let event_is = of_post state entry.0 t entry.1.sender (codes "target thread died") entry.1 found.0 in
          later next (many_mail queues entry.1.sender false one ∙ have)
          ∙ ap (λ events. events ++ set_events state t rest) (first ∙ ap (λ events. events_in (queue_of queues t) ++ events) (sym event_is))
          ∙ append_assoc (events_in (queue_of queues t)) (set_events state t (Set entry.0 entry.1.sender (codes "target thread died") ∷ []))
          (set_events state t rest)
          ∙ ap (λ events. events_in (queue_of queues t) ++ events)
          (sym (set-append state t (Set entry.0 entry.1.sender (codes "target thread died") ∷ []) rest))

  one_if_none : (b : Bool) (n : ℕ) → set_events state t (if b then Died n ∷ [] else []) ≡ []
  one_if_none true n = refl
  one_if_none false n = refl

  deaths_set : set_events state t (deaths state u) ≡ set_events state t (flat_map (post_set state.rows u) state.posts.variables)
  deaths_set =
      let slots = flat_map (slot_died u) state.posts.slots.open_slots in
      let died = flat_map (post_died u) state.posts.variables in
      let set = flat_map (post_set state.rows u) state.posts.variables in
      set-append state t slots (died ++ set)
      ∙ ap (λ events. events ++ set_events state t (died ++ set))
      (flat_set_none state t (slot_died u) (λ entry. one_if_none (is_due u entry.1) entry.0) state.posts.slots.open_slots)
      ∙ set-append state t died set
      ∙ ap (λ events. events ++ set_events state t set)
      (flat_set_none state t (post_died u) (λ entry. one_if_none (is_owed u entry.1) entry.0) state.posts.variables)

  pub by_end : (code : ℤ) → HaveQueues state → Every (Finds state.posts.variables) state.posts.variables → t ≢ u
      → Comes state (state_after_end state u code) t (deaths state u)
  by_end code have found other =
      emptied_others (tells_died state.rows u (values_of state.posts.variables) state.queues) u t other
      ∙ tell state.posts.variables state.queues found have
      ∙ ap (λ events. events_at state t ++ events) (sym deaths_set)
