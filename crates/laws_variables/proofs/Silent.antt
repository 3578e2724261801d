-- Of each variable that is to be set the post is there, and other requests than the answers of posts set none.
use Rattle.std.proofs.Common.{◌≡◌, ℕ, codes, Bool, true, false, List, [], ◌∷◌, flat_map, Option, Some, None, if◌then◌else◌, refl}
use Rattle.std.specs.Bool.{⊤}
use Rattle.laws_sends.proofs.Actions.{by_owners}
use Rattle.laws_sends.proofs.Cuts.{Every, every-append, every-on}
use Rattle.laws_sends.proofs.Requests.{by_hold}
use Rattle.laws_sends.proofs.Views.{OfOthers}
use Rattle.laws_shared.specs.Actions.{Moment, action_result}
use Rattle.laws_shared.specs.Happenings.{Began, Died, Finished, Frees, GetsHold, Got, Happening, Owner, Posted, Recipient, Set}
use Rattle.laws_shared.specs.Happenings.{answer_happenings, begin_happenings}
use Rattle.laws_shared.specs.Happenings.{deaths, got, happenings_by, happens, holds_changed, holds_of, lock_named, others, owners_changed}
use Rattle.laws_shared.specs.Happenings.{post_died, post_set, posts_from}
use Rattle.laws_shared.specs.Happenings.{report_happenings, send_happenings, slot_died, slot_happenings, variable_happenings}
use Rattle.laws_variables.proofs.Runs.{Finds}
use Rattle.laws_variables.specs.VariableEvents.{HasVariable, answers_posts, is_set}
use Rattle.tt_calls.specs.declared.event.Event.TheVariants as event
use Rattle.tt_calls.specs.declared.outcome.Outcome.{Outcome}
use Rattle.tt_calls.specs.declared.reply.Reply.{Reply}
use Rattle.tt_calls.specs.declared.reply.Reply.TheVariants as reply
use Rattle.tt_calls.specs.declared.request.Request.{Request}
use Rattle.tt_calls.specs.declared.request.Request.TheVariants as ask
use Rattle.tt_shared.specs.Ends.{hears}
use Rattle.tt_shared.specs.Mail.{is_owed, variable_post}
use Rattle.tt_shared.specs.Sends.{is_due, procedure_in_use}
use Rattle.tt_shared.specs.State.{State}
use Rattle.tt_shared.specs.declared.posts.VariablePost.{VariablePost}
use Rattle.tt_shared.specs.declared.reports.ErrorProcedure.{ErrorProcedure}
use Rattle.tt_slots.specs.Waiting.{slot_of}
use Rattle.tt_slots.specs.declared.slot.Slot.{Slot}
use Rattle.tt_threads.specs.Rows.{is_living, linked_thread}

-- ---- no variable is set ----

abbrev pub SetsNone : Happening → Type 0
SetsNone one = is_set one ≡ false

others_none : (one : Happening) → OfOthers one → SetsNone one
others_none (GetsHold lock t) is = refl
others_none (Frees lock t) is = refl
others_none (Owner channel owner) is = refl
others_none (Posted n from to recipient head) is = refl
others_none (Began n t) is = refl
others_none (Finished n outcome) is = refl
others_none (Died n) is = refl
others_none (Got n t told) is = refl
others_none (Set n t value) is = absurd is

none_sent : (t : ℕ) (target : Option ℕ) (recipient : Recipient) (head : Bool) (answered : Reply)
    → Every SetsNone (send_happenings t target recipient head answered)
none_sent t (Some target) recipient head (reply.Posted n) = (refl, tt)
none_sent t target recipient head answered = tt

none_reported : (state : State) (t : ℕ) (procedure : Option ErrorProcedure) → Every SetsNone (report_happenings state t procedure)
none_reported state t None = tt
none_reported state t (Some procedure) = (refl, tt)

none_from : (n t : ℕ) (targets : List ℕ) → Every SetsNone (posts_from n t targets)
none_from n t [] = tt
none_from n t (target ∷ targets) = (refl, none_from _ t targets)

none_begun : (t : ℕ) (answered : Reply) → Every SetsNone (begin_happenings t answered)
none_begun t (reply.Event (event.Script n script answer plain)) = (refl, tt)
none_begun t answered = tt

none_got : (t n : ℕ) (answered : Reply) → Every SetsNone (got t n answered)
none_got t n reply.Died = (refl, tt)
none_got t n (reply.Answer outcome) = (refl, tt)
none_got t n answered = tt

none_held : (old new : State) (t : ℕ) (named : Option (List ℕ)) → Every SetsNone (holds_changed old.locks new.locks t named)
none_held old new t None = tt
none_held old new t (Some text) = every-on OfOthers SetsNone others_none _ (by_hold text t (holds_of old.locks text t) (holds_of new.locks text t))

none_by_request : (old new : State) (t : ℕ) (request : Request) (answered : Reply) → answers_posts request ≡ false
    → Every SetsNone (happens old new t request answered)
none_by_request old new t (ask.Send text script mode variable head) answered is = none_sent t (linked_thread old.rows text) _ head answered
none_by_request old new t (ask.Report trace plain) answered is = none_reported old t (procedure_in_use old plain old.error_procedure)
none_by_request old new t (ask.Broadcast script) answered is = none_from old.posts.next t (others old t)
none_by_request old new t ask.Take answered is = none_begun t answered
none_by_request old new t ask.TakeReady answered is = none_begun t answered
none_by_request old new t (ask.Pool call) answered is = none_begun t answered
none_by_request old new t (ask.Deliver n outcome) answered is = absurd (cc is)
none_by_request old new t (ask.Await n) answered is = none_got t n answered
none_by_request old new t (ask.Lock call) answered is = none_held old new t (lock_named call)
none_by_request old new t (ask.End code) answered is = absurd (cc is)
none_by_request old new t request answered is = tt

none_moved : (moment : Moment) → Every SetsNone (owners_changed moment.before.channels (action_result moment.before moment.action).state.channels)
none_moved moment = every-on OfOthers SetsNone others_none _ (by_owners moment.before.channels (action_result moment.before moment.action).state.channels)

pub none_by : (moment : Moment) → answers_posts moment.action.request ≡ false → Every SetsNone (happenings_by moment)
none_by moment is =
    let done = action_result moment.before moment.action in
    every-append SetsNone _ _ (none_by_request moment.before done.state moment.action.thread moment.action.request done.gives.reply is) (none_moved moment)

-- ---- the posts of those that are set ----

abbrev pub SetHas : State → Happening → Type 0
SetHas state (Set n t value) = HasVariable state n t
SetHas state other = ⊤

module _ (state : State) where
  none_has : (one : Happening) → SetsNone one → SetHas state one
  none_has (GetsHold lock t) is = tt
  none_has (Frees lock t) is = tt
  none_has (Owner channel owner) is = tt
  none_has (Posted n from to recipient head) is = tt
  none_has (Began n t) is = tt
  none_has (Finished n outcome) is = tt
  none_has (Died n) is = tt
  none_has (Got n t told) is = tt
  none_has (Set n t value) is = absurd (cc is)

  has_post : (n : ℕ) (post : VariablePost) → variable_post state.posts n ≡ Some post → HasVariable state n post.sender
  has_post n post there = record { target = post.target; name = post.name; there = there }

  has_variable : (n : ℕ) (value : List ℕ) (found : Option VariablePost) → variable_post state.posts n ≡ found
      → Every (SetHas state) (variable_happenings state.rows n value found)
  has_variable n value None there = tt
  has_variable n value (Some post) there = go (is_living state.rows post.sender)
    where
      go : (b : Bool) → Every (SetHas state) (if b then Set n post.sender value ∷ [] else [])
      go true = (has_post n post there, tt)
      go false = tt

  has_slot : (n : ℕ) (value : List ℕ) (found : Option Slot) → Every (SetHas state) (slot_happenings state n value found)
  has_slot n value None = has_variable n value (variable_post state.posts n) refl
  has_slot n value (Some slot) = tt

  has_answered : (n : ℕ) (outcome : Outcome) (answered : Reply) → Every (SetHas state) (answer_happenings state n outcome answered)
  has_answered n outcome (reply.Served stops) = (tt, has_slot n outcome.value (slot_of state.posts.slots n))
  has_answered n outcome answered = tt

  every-flat : {X : Type 0} (f : X → List Happening) (P : X → Type 0) → ((x : X) → P x → Every (SetHas state) (f x)) → (xs : List X) → Every P xs
      → Every (SetHas state) (flat_map f xs)
  every-flat f P on [] every = tt
  every-flat f P on (x ∷ xs) every = every-append (SetHas state) (f x) (flat_map f xs) (on x every.0) (every-flat f P on xs every.1)

  every-any : {X : Type 0} (xs : List X) → Every (λ x. ⊤) xs
  every-any [] = tt
  every-any (x ∷ xs) = (tt, every-any xs)

  has_died : (b : Bool) (n : ℕ) → Every (SetHas state) (if b then Died n ∷ [] else [])
  has_died true n = (tt, tt)
  has_died false n = tt

  has_set : (t : ℕ) (entry : ℕ × VariablePost) → Finds state.posts.variables entry → Every (SetHas state) (post_set state.rows t entry)
  has_set t entry there = go (hears state.rows t entry.1)
    where
      go : (b : Bool) → Every (SetHas state) (if b then Set entry.0 entry.1.sender (codes "target thread died") ∷ [] else [])
      go true = (has_post entry.0 entry.1 there, tt)
      go false = tt

  has_deaths : (t : ℕ) → Every (Finds state.posts.variables) state.posts.variables → Every (SetHas state) (deaths state t)
  has_deaths t found =
      every-append (SetHas state) _ _
      (every-flat (slot_died t) (λ x. ⊤) (λ entry any. has_died (is_due t entry.1) entry.0) state.posts.slots.open_slots
      (every-any state.posts.slots.open_slots))
      (every-append (SetHas state) _ _
      (every-flat (post_died t) (λ x. ⊤) (λ entry any. has_died (is_owed t entry.1) entry.0) state.posts.variables (every-any state.posts.variables))
      (every-flat (post_set state.rows t) (Finds state.posts.variables) (has_set t) state.posts.variables found))

has_by_request : (old new : State) (t : ℕ) (request : Request) (answered : Reply) → Every (Finds old.posts.variables) old.posts.variables
    → Every (SetHas old) (happens old new t request answered)
has_by_request old new t (ask.Deliver n outcome) answered found = has_answered old n outcome answered
has_by_request old new t (ask.End code) answered found = has_deaths old t found
has_by_request old new t request answered found =
    every-on SetsNone (SetHas old) (none_has old) (happens old new t request answered) (none_by_request old new t request answered refl)

pub has_by : (moment : Moment) → Every (Finds moment.before.posts.variables) moment.before.posts.variables
    → Every (SetHas moment.before) (happenings_by moment)
has_by moment found =
    let done = action_result moment.before moment.action in
    every-append (SetHas moment.before) _ _
    (has_by_request moment.before done.state moment.action.thread moment.action.request done.gives.reply found)
    (every-on SetsNone (SetHas moment.before) (none_has moment.before) _ (none_moved moment))
