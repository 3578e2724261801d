-- The events that set variables stay in the queue of a thread, in order, until it takes them.
use Rattle.std.proofs.Common.{◌≡◌, ◌∙◌, ◌==◌, ℕ, Bool, true, false, if◌then◌else◌, List, [], ◌∷◌, ◌++◌, Option, Some, None}
use Rattle.std.proofs.Common.{ap, refl, sym, subst, append-nil, arith}
use Rattle.std.proofs.lemmas.Bool.Decides.{nat_tests}
use Rattle.laws_sends.proofs.Cuts.{Every}
use Rattle.laws_sends.proofs.Requests.{taking}
use Rattle.laws_shared.proofs.Deciding.{same}
use Rattle.laws_shared.proofs.Numbered.{by_number, put_here}
use Rattle.laws_shared.specs.Actions.{Moment, action_result}
use Rattle.laws_shared.specs.Happenings.{Began, Died, Finished, Frees, GetsHold, Got, Happening, Owner, Posted, Set, happenings_by}
use Rattle.laws_shared.specs.KeptChannels.{events_in}
use Rattle.laws_shared.specs.Orderly.{later}
use Rattle.laws_variables.proofs.Answered.{Comes}
use Rattle.laws_variables.proofs.Pools.{IsNoEvent, answers_no_event}
use Rattle.laws_variables.proofs.SameEvents.{SameEvents, by_starts, events-append, kept_at, same_by}
use Rattle.laws_variables.proofs.Silent.{SetsNone, none_by}
use Rattle.laws_variables.specs.VariableEvents.{answers_posts, event_in, event_of_post, events_at, set_event, set_events, taken, taken_by}
use Rattle.laws_variables.specs.VariableEvents.{variable_events}
use Rattle.tt_calls.specs.declared.event.Event.{Event}
use Rattle.tt_calls.specs.declared.event.Event.TheVariants as event
use Rattle.tt_calls.specs.declared.pool_call.PoolCall.{PoolCall}
use Rattle.tt_calls.specs.declared.reply.Reply.{Reply}
use Rattle.tt_calls.specs.declared.reply.Step.{Step}
use Rattle.tt_calls.specs.declared.reply.Step.TheVariants as step
use Rattle.tt_calls.specs.declared.request.Request.{Request}
use Rattle.tt_calls.specs.declared.request.Request.TheVariants as ask
use Rattle.tt_pools.specs.Calls as pools
use Rattle.tt_pools.specs.declared.step.PoolStep.{PoolStep}
use Rattle.tt_shared.specs.Acts.{act, gives_of, on_pools, starts}
use Rattle.tt_shared.specs.Mail.{queue_of, with_queue}
use Rattle.tt_shared.specs.Sends.{come, takes}
use Rattle.tt_shared.specs.State.{Acted, State, is_marked, room}
use Rattle.tt_shared.specs.declared.applied.Line.{Line}
use Rattle.tt_shared.specs.declared.posts.VariablePost.{VariablePost}
use Rattle.tt_shared.specs.Mail.{variable_post}

-- ---- what is set ----

module _ (state : State) (t : ℕ) where
  -- nothing is set
  none_set : (happened : List Happening) → Every SetsNone happened → set_events state t happened ≡ []
  none_set [] none = refl
  none_set (GetsHold lock u ∷ happened) none = none_set happened none.1
  none_set (Frees lock u ∷ happened) none = none_set happened none.1
  none_set (Owner channel owner ∷ happened) none = none_set happened none.1
  none_set (Posted n from to recipient head ∷ happened) none = none_set happened none.1
  none_set (Began n u ∷ happened) none = none_set happened none.1
  none_set (Finished n outcome ∷ happened) none = none_set happened none.1
  none_set (Died n ∷ happened) none = none_set happened none.1
  none_set (Got n u told ∷ happened) none = none_set happened none.1
  none_set (Set n u value ∷ happened) none = absurd (cc none.0)

  -- all of these events set variables
  of_post : (b : Bool) (value : List ℕ) (found : Option VariablePost)
      → variable_events (if b then event_of_post value found else []) ≡ (if b then event_of_post value found else [])
  of_post true value None = refl
  of_post true value (Some post) = refl
  of_post false value found = refl

  one_event : (one : Happening) → variable_events (set_event state t one) ≡ set_event state t one
  one_event (GetsHold lock u) = refl
  one_event (Frees lock u) = refl
  one_event (Owner channel owner) = refl
  one_event (Posted n from to recipient head) = refl
  one_event (Began n u) = refl
  one_event (Finished n outcome) = refl
  one_event (Died n) = refl
  one_event (Got n u told) = refl
  one_event (Set n u value) = of_post (u == t) value (variable_post state.posts n)

  all_events : (happened : List Happening) → variable_events (set_events state t happened) ≡ set_events state t happened
  all_events [] = refl
  all_events (one ∷ happened) =
      events-append (set_event state t one) (set_events state t happened)
      ∙ ap (λ events. events ++ variable_events (set_events state t happened)) (one_event one)
      ∙ ap (λ events. set_event state t one ++ events) (all_events happened)

-- ---- what is taken ----

-- what a thread takes, and what stays in the queue of t
abbrev pub Leaves : (state : State) (u t : ℕ) → (taken : List Event) → State → Type 0
Leaves state u t events new = variable_events (if u == t then events else []) ++ kept_at new.queues t ≡ kept_at state.queues t

nothing : (b : Bool) → variable_events (if b then [] else []) ≡ []
nothing true = refl
nothing false = refl

still : (state new : State) (u t : ℕ) → SameEvents state.queues new.queues → Leaves state u t [] new
still state new u t same = ap (λ events. events ++ kept_at new.queues t) (nothing (u == t)) ∙ same t

come_same : (state : State) (u : ℕ) (what : Event) → (come state u what).queues ≡ state.queues
come_same state u (event.Moved channel) = refl
come_same state u what = refl

first_taken : (state : State) (u t : ℕ) (what : Event) (events : List Event) → queue_of state.queues u ≡ Some (what ∷ events)
    → Leaves state u t (what ∷ []) (come (record state { queues = with_queue state.queues u events }) u what)
first_taken state u t what events there =
    ap (λ queues. variable_events (if u == t then what ∷ [] else []) ++ kept_at queues t)
    (come_same (record state { queues = with_queue state.queues u events }) u what)
    ∙ go (u == t) refl
  where
    go : (b : Bool) → (u == t) ≡ b → variable_events (if b then what ∷ [] else []) ++ kept_at (with_queue state.queues u events) t ≡ kept_at state.queues t
    go true is =
        subst (λ n. variable_events (what ∷ []) ++ kept_at (with_queue state.queues u events) n ≡ kept_at state.queues n) (same u t is)
        (ap (λ found. variable_events (what ∷ []) ++ variable_events (events_in found)) (put_here state.queues u events (what ∷ events) there)
        ∙ sym (events-append (what ∷ []) events) ∙ ap (λ found. variable_events (events_in found)) (sym there))
    go false is =
        by_number (λ found. variable_events (events_in found) ≡ kept_at state.queues t) state.queues u t events (what ∷ events) there
        (λ alike. absurd (differs alike is)) refl
      where
        differs : t ≡ u → (u == t) ≡ false → ⊥
        differs alike is = grind (arith, nat_tests, alike, is)

by_takes : (state : State) (u t : ℕ) → Leaves state u t (event_in (takes state u).gives.reply) (takes state u).state
by_takes state u t = go (queue_of state.queues u) refl
  where
    go : (found : Option (List Event)) → queue_of state.queues u ≡ found → Leaves state u t (event_in (takes state u).gives.reply) (takes state u).state
    go None there = rw there (still state state u t (λ n. refl))
    go (Some []) there = rw there (still state state u t (λ n. refl))
    go (Some (what ∷ events)) there =
        subst (λ (acted : Acted). Leaves state u t (event_in acted.gives.reply) acted.state) (sym (taking state u what events there))
        (first_taken state u t what events there)

by_gives : (state : State) (u t : ℕ) (gives : PoolStep) → IsNoEvent gives.step
    → Leaves state u t (event_in (gives_of state u gives).gives.reply) (gives_of state u gives).state
by_gives state u t gives none = go gives.step refl none
  where
    go : (what : Step) → gives.step ≡ what → IsNoEvent what
        → Leaves state u t (event_in (gives_of state u gives).gives.reply) (gives_of state u gives).state
    go step.Wait is none = rw is (by_takes state u t)
    go (step.Reply answered) is none =
        let new = starts state gives.start gives.worker in
        rw is (subst (λ events. Leaves state u t events new) (sym none) (still state new u t (by_starts state gives.start gives.worker)))

by_pools : (state : State) (u t : ℕ) (call : PoolCall) → Leaves state u t (event_in (on_pools state u call).gives.reply) (on_pools state u call).state
by_pools state u t call =
    let answered = pools.act_or_wait state.pools u (room state) (is_marked state u) call in
    by_gives (record state { pools = answered.table }) u t answered.gives (answers_no_event state.pools u (room state) (is_marked state u) call)

by_request : (state : State) (u t : ℕ) (request : Request) (line : Line) → answers_posts request ≡ false
    → Leaves state u t (taken_by request (act state u request line).gives.reply) (act state u request line).state
by_request state u t ask.Take line is = by_takes state u t
by_request state u t ask.TakeReady line is = by_takes state u t
by_request state u t (ask.Pool call) line is = by_pools state u t call
by_request state u t (ask.Deliver n outcome) line is = absurd (cc is)
by_request state u t (ask.End code) line is = absurd (cc is)
by_request state u t request line is = still state (act state u request line).state u t (same_by state u request line refl)

-- ---- actions ----

abbrev pub FlowsOn : Moment → ℕ → Type 0
FlowsOn moment t =
    variable_events (taken moment t) ++ variable_events (events_at (later moment) t)
    ≡ variable_events (events_at moment.before t) ++ set_events moment.before t (happenings_by moment)

pub by_others : (moment : Moment) (t : ℕ) → answers_posts moment.action.request ≡ false → FlowsOn moment t
by_others moment t is =
    let state = moment.before in
    let action = moment.action in
    by_request state action.thread t action.request action.line is
    ∙ sym (append-nil (variable_events (events_at state t)))
    ∙ ap (λ events. variable_events (events_at state t) ++ events) (sym (none_set state t (happenings_by moment) (none_by moment is)))

-- who answers posts takes no event
none_taken : (request : Request) (answered : Reply) → answers_posts request ≡ true → taken_by request answered ≡ []
none_taken (ask.Deliver n outcome) answered is = refl
none_taken (ask.End code) answered is = refl
none_taken request answered is = absurd (cc is)

pub by_answers : (moment : Moment) (t : ℕ) → answers_posts moment.action.request ≡ true → Comes moment.before (later moment) t (happenings_by moment)
    → FlowsOn moment t
by_answers moment t is comes =
    let state = moment.before in
    let action = moment.action in
    let set = set_events state t (happenings_by moment) in
    let none : variable_events (taken moment t) ≡ []
    = ap (λ events. variable_events (if action.thread == t then events else []))
    (none_taken action.request (action_result state action).gives.reply is) ∙ nothing (action.thread == t) in
    ap (λ events. events ++ variable_events (events_at (later moment) t)) none
    ∙ ap variable_events comes
    ∙ events-append (events_at state t) set
    ∙ ap (λ events. variable_events (events_at state t) ++ events) (all_events state t (happenings_by moment))
