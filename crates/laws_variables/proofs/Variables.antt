-- The variables that answers go to are set by events.
use Rattle.std.proofs.Common.{◌≡◌, ◌∙◌, ℕ, ℤ, Bool, true, false, List, [], ◌∷◌, ◌++◌, Some, ap, refl, sym, subst}
use Rattle.std.proofs.lemmas.List.Elements.{All-cons, All-contains, All-nil}
use Rattle.std.specs.List.{All, Contains}
use Rattle.laws_sends.proofs.Actions.{by_action, by_owners}
use Rattle.laws_sends.proofs.Cuts.{Every}
use Rattle.laws_sends.proofs.Threads.{end_ends, living_not_ended}
use Rattle.laws_sends.proofs.Weights.{first_of, later_of}
use Rattle.laws_shared.proofs.Mild.{HaveQueues}
use Rattle.laws_shared.specs.Actions.{Moment, action_result}
use Rattle.laws_shared.specs.Happenings.{Set, happenings_by, happens}
use Rattle.laws_shared.specs.Orderly.{later}
use Rattle.laws_variables.proofs.Answered.{Comes, by_answer, by_end}
use Rattle.laws_variables.proofs.Flows.{by_answers, by_others}
use Rattle.laws_variables.proofs.Mailed.{then_others}
use Rattle.laws_variables.proofs.Names.{Leaves, asked, stays_by}
use Rattle.laws_variables.proofs.Runs.{Finds, each_found, reached_sound}
use Rattle.laws_variables.proofs.Silent.{SetHas, SetsNone, has_by, none_by}
use Rattle.laws_variables.specs.VariableEvents.{VariableLaw, answers_posts, events_at, set_events, taken, variable_events}
use Rattle.tt_calls.specs.declared.reply.Reply.TheVariants as reply
use Rattle.tt_calls.specs.declared.request.Mode.TheVariants.{Later}
use Rattle.tt_calls.specs.declared.request.Request.{Request}
use Rattle.tt_calls.specs.declared.request.Request.TheVariants as ask
use Rattle.tt_shared.specs.Acts.{act}
use Rattle.tt_shared.specs.Mail.{variable_of, variable_post}
use Rattle.tt_shared.specs.State.{Acted, State}
use Rattle.tt_shared.specs.declared.applied.Line.{Line}
use Rattle.tt_slots.specs.Waiting.{slot_of}
use Rattle.tt_threads.specs.Rows.{is_living, linked_thread, with_end}
use Rattle.tt_threads.specs.declared.row.Row.{Row}

-- ---- every and all ----

module _ {X : Type 0} (P : X → Type 0) where
  all_of : (xs : List X) → Every P xs → All P xs
  all_of [] every = All-nil P
  all_of (x ∷ xs) every = All-cons P x xs every.0 (all_of xs every.1)

  each_of : (xs : List X) → ((x : X) → Contains xs x → P x) → Every P xs
  each_of [] each = tt
  each_of (x ∷ xs) each = (each x (first_of x xs), each_of xs (λ y is. each y (later_of x xs y is)))

  every_of : (xs : List X) → All P xs → Every P xs
  every_of xs all = each_of xs (λ x is. All-contains P xs x all is)

  pub one_of : (xs : List X) (x : X) → Every P xs → Contains xs x → P x
  one_of xs x every is = All-contains P xs x (all_of xs every) is

-- ---- events ----

-- who lives after the end of a thread is another
other_lives : (rows : List Row) (t u : ℕ) (code : ℤ) → is_living rows u ≡ true → is_living (with_end rows u code) t ≡ true → t ≡ u → ⊥
other_lives rows t u code lives goes_on alike =
    let has_ended = end_ends rows u code lives in
    let has_not = living_not_ended (with_end rows u code) u (subst (λ n. is_living (with_end rows u code) n ≡ true) alike goes_on) in
    absurd (cc (has_ended, has_not))

by_request : (state : State) (u t : ℕ) (request : Request) (line : Line) → HaveQueues state → Every (Finds state.posts.variables) state.posts.variables
    → is_living state.rows u ≡ true → answers_posts request ≡ true → is_living (act state u request line).state.rows t ≡ true
    → Comes state (act state u request line).state t (happens state (act state u request line).state u request (act state u request line).gives.reply)
by_request state u t (ask.Deliver n outcome) line have found lives is goes_on = by_answer state have t u n outcome (slot_of state.posts.slots n) refl
by_request state u t (ask.End code) line have found lives is goes_on = by_end state t u code have found (other_lives state.rows t u code lives goes_on)
by_request state u t request line have found lives is goes_on = absurd (cc is)

queued_by : (moment : Moment) (t : ℕ) → HaveQueues moment.before → Every (Finds moment.before.posts.variables) moment.before.posts.variables
    → is_living moment.before.rows moment.action.thread ≡ true → answers_posts moment.action.request ≡ true → is_living (later moment).rows t ≡ true
    → Comes moment.before (later moment) t (happenings_by moment)
queued_by moment t have found lives is goes_on =
    let state = moment.before in
    let action = moment.action in
    let done = action_result state action in
    let happened = happens state done.state action.thread action.request done.gives.reply in
    by_request state action.thread t action.request action.line have found lives is goes_on
    ∙ ap (λ events. events_at state t ++ events) (sym (then_others state t happened _ (by_owners state.channels done.state.channels)))

flows_by : (moment : Moment) (t : ℕ) → HaveQueues moment.before → Every (Finds moment.before.posts.variables) moment.before.posts.variables
    → is_living moment.before.rows moment.action.thread ≡ true → is_living (later moment).rows t ≡ true
    → variable_events (taken moment t) ++ variable_events (events_at (later moment) t)
    ≡ variable_events (events_at moment.before t) ++ set_events moment.before t (happenings_by moment)
flows_by moment t have found lives goes_on = go (answers_posts moment.action.request) refl
  where
    go : (b : Bool) → answers_posts moment.action.request ≡ b
        → variable_events (taken moment t) ++ variable_events (events_at (later moment) t)
        ≡ variable_events (events_at moment.before t) ++ set_events moment.before t (happenings_by moment)
    go true is = by_answers moment t is (queued_by moment t have found lives is goes_on)
    go false is = by_others moment t is

-- ---- names ----

asked_by : (moment : Moment) (n target : ℕ) (text script name : List ℕ) (head : Bool) → moment.action.request ≡ ask.Send text script Later (Some name) head
    → linked_thread moment.before.rows text ≡ Some target → (action_result moment.before moment.action).gives.reply ≡ reply.Posted n
    → variable_post (later moment).posts n ≡ Some (variable_of moment.action.thread target name)
asked_by moment n target text script name head is linked posted =
    let state = moment.before in
    let action = moment.action in
    let acted : action_result state action ≡ act state action.thread (ask.Send text script Later (Some name) head) action.line
    = ap (λ request. act state action.thread request action.line) is in
    ap (λ (done : Acted). variable_post done.state.posts n) acted
    ∙ asked state action.thread n target text script name head linked (sym (ap (λ (done : Acted). done.gives.reply) acted) ∙ posted)

pub variables_set : VariableLaw
variables_set moment reached can =
    let state = moment.before in
    let sound = reached_sound state reached in
    let found = each_found state.posts.variables sound.once in
    record {
      named = λ n t value is. one_of (SetHas state) (happenings_by moment) (Set n t value) (has_by moment found) is;
      queued = λ t is goes_on. queued_by moment t sound.queues found can.lives is goes_on;
      none = λ is. all_of SetsNone (happenings_by moment) (none_by moment is);
      flows = λ t goes_on. flows_by moment t sound.queues found can.lives goes_on;
      asked = λ n target text script name head is linked posted. asked_by moment n target text script name head is linked posted;
      kept = λ n post there leaves.
          stays_by n post state (later moment) (happenings_by moment) (by_action moment sound.queues can.lives) there (sound.below n post there)
          (every_of (Leaves n) (happenings_by moment) leaves);
    }
