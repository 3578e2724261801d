-- Variables that answers go to, and the events that set them (thread(n), thread::send).
use Rattle.std.specs.Prelude.{◌≡◌, ◌==◌, ℕ, Bool, true, false, IsTrue, IsFalse, List, [], ◌∷◌, ◌++◌, Option, Some, None}
use Rattle.std.specs.Prelude.{if◌then◌else◌}
use Rattle.std.specs.List.{All, Contains, filter, flat_map}
use Rattle.laws_sends.specs.Sends.{ends}
use Rattle.laws_shared.specs.Actions.{CanHappen, Moment, Reached, action_result}
use Rattle.laws_shared.specs.Happenings.{Happening, Set, happenings_by}
use Rattle.laws_shared.specs.KeptChannels.{events_in}
use Rattle.laws_shared.specs.Orderly.{later}
use Rattle.tt_calls.specs.declared.event.Event.{Event}
use Rattle.tt_calls.specs.declared.event.Event.TheVariants as event
use Rattle.tt_calls.specs.declared.reply.Reply.{Reply}
use Rattle.tt_calls.specs.declared.reply.Reply.TheVariants as reply
use Rattle.tt_calls.specs.declared.request.Mode.TheVariants.{Later}
use Rattle.tt_calls.specs.declared.request.Request.{Request}
use Rattle.tt_calls.specs.declared.request.Request.TheVariants as ask
use Rattle.tt_shared.specs.Mail.{queue_of, variable_post}
use Rattle.tt_shared.specs.State.{State}
use Rattle.tt_shared.specs.declared.posts.VariablePost.{VariablePost}
use Rattle.tt_threads.specs.Rows.{is_living, linked_thread}

-- ---- events ----

-- the queue of a thread; it is empty if there is no such thread
abbrev pub events_at : State → (t : ℕ) → List Event
events_at state t = events_in (queue_of state.queues t)

-- the event that sets the variable of a post
abbrev pub event_of_post : (value : List ℕ) → Option VariablePost → List Event
event_of_post value None = []
event_of_post value (Some post) = event.SetVar post.name value ∷ []

-- the events that set variables of thread t: one for each that is to be set, in order, under the name that the post has
abbrev pub set_event : State → (t : ℕ) → Happening → List Event
set_event state t (Set n sender value) =
    if sender == t then event_of_post value (variable_post state.posts n) else []
set_event state t other = []

abbrev pub set_events : State → (t : ℕ) → List Happening → List Event
set_events state t happened = flat_map (set_event state t) happened

-- such events, in order
abbrev pub sets_variable : Event → Bool
sets_variable (event.SetVar name value) = true
sets_variable other = false

abbrev pub variable_events : List Event → List Event
variable_events events = filter sets_variable events

-- ---- which actions ----

-- a thread hands over what a script came to, or ends
abbrev pub answers_posts : Request → Bool
answers_posts (ask.Deliver n outcome) = true
answers_posts (ask.End code) = true
answers_posts request = false

-- the event that a thread is answered; a call on a pool that waits serves events meanwhile (tpool(n), tpool::wait)
abbrev pub event_in : Reply → List Event
event_in (reply.Event one) = one ∷ []
event_in answered = []

abbrev pub taken_by : Request → Reply → List Event
taken_by ask.Take answered = event_in answered
taken_by ask.TakeReady answered = event_in answered
taken_by (ask.Pool call) answered = event_in answered
taken_by request answered = []

abbrev pub taken : Moment → (t : ℕ) → List Event
taken moment t =
    if moment.action.thread == t
    then taken_by moment.action.request (action_result moment.before moment.action).gives.reply
    else []

-- a variable is to be set
abbrev pub is_set : Happening → Bool
is_set (Set n t value) = true
is_set other = false

-- ---- the law ----

-- post n was sent by thread t, and its answer goes to a variable
pub record HasVariable (state : State) (n t : ℕ) : Type 0 where
  pub target : ℕ
  pub name : List ℕ
  pub there : variable_post state.posts n ≡ Some (record { sender = t; target = target; name = name })

-- Of each variable that is to be set the post is there. An event for it comes to the end of the queue of the sender, if
-- that lives after the action, and nothing else comes. Other actions set no variable. Whatever threads do, these events
-- stay in the queue of a thread that lives, in order, until it takes them. The name is the one that the sender gave,
-- and the post keeps it until it is answered.
pub record VariablesAreSet (moment : Moment) : Type 0 where
  pub named :
      (n t : ℕ) (value : List ℕ) →
      Contains (happenings_by moment) (Set n t value) →
      HasVariable moment.before n t
  pub queued :
      (t : ℕ) →
      IsTrue (answers_posts moment.action.request) →
      IsTrue (is_living (later moment).rows t) →
      events_at (later moment) t ≡ events_at moment.before t ++ set_events moment.before t (happenings_by moment)
  pub none :
      IsFalse (answers_posts moment.action.request) → All (λ one. IsFalse (is_set one)) (happenings_by moment)
  pub flows :
      (t : ℕ) →
      IsTrue (is_living (later moment).rows t) →
      variable_events (taken moment t) ++ variable_events (events_at (later moment) t)
      ≡ variable_events (events_at moment.before t) ++ set_events moment.before t (happenings_by moment)
  pub asked :
      (n target : ℕ) (text script name : List ℕ) (head : Bool) →
      moment.action.request ≡ ask.Send text script Later (Some name) head →
      linked_thread moment.before.rows text ≡ Some target →
      (action_result moment.before moment.action).gives.reply ≡ reply.Posted n →
      variable_post (later moment).posts n
      ≡ Some (record { sender = moment.action.thread; target = target; name = name })
  pub kept :
      (n : ℕ) (post : VariablePost) →
      variable_post moment.before.posts n ≡ Some post →
      All (λ one. IsFalse (ends n one)) (happenings_by moment) →
      variable_post (later moment).posts n ≡ Some post

-- of each action of a run
abbrev pub VariableLaw : Type 0
VariableLaw =
    (moment : Moment) → Reached moment.before → CanHappen moment.before moment.action → VariablesAreSet moment
