-- A variable is set under the name that its thread asked for (thread(n), thread::send).
use Rattle.std.specs.Prelude.{◌≡◌, ℕ, Bool, List, [], ◌∷◌, ◌++◌, Some}
use Rattle.std.specs.List.{Contains}
use Rattle.laws_shared.specs.Actions.{Action, Acts, Moment, action_result, moments}
use Rattle.laws_shared.specs.Happenings.{Set, happenings_by}
use Rattle.laws_variables.specs.VariableEvents.{set_event}
use Rattle.tt_calls.specs.declared.event.Event.TheVariants as event
use Rattle.tt_calls.specs.declared.reply.Reply.TheVariants as reply
use Rattle.tt_calls.specs.declared.request.Mode.TheVariants.{Later}
use Rattle.tt_calls.specs.declared.request.Request.TheVariants as ask
use Rattle.tt_calls.specs.declared.start.Start.{Start}
use Rattle.tt_shared.specs.State.{State, start_state}

-- thread t has sent post n, and asked for its answer in a variable of that name
pub record IsAskedFor (before : List Moment) (n t : ℕ) (name : List ℕ) : Type 0 where
  pub moment : Moment
  pub text : List ℕ
  pub script : List ℕ
  pub head : Bool
  pub earlier : Contains before moment
  pub thread : moment.action.thread ≡ t
  pub request : moment.action.request ≡ ask.Send text script Later (Some name) head
  pub reply : (action_result moment.before moment.action).gives.reply ≡ reply.Posted n

-- the event that sets the variable has the name that was asked for
pub record IsSetAsAsked (before : List Moment) (moment : Moment) (n t : ℕ) (value : List ℕ) : Type 0 where
  pub name : List ℕ
  pub asked : IsAskedFor before n t name
  pub is : set_event moment.before t (Set n t value) ≡ event.SetVar name value ∷ []

-- of every list of actions from the start
abbrev pub VariableNameLaw : Type 0
VariableNameLaw =
    (main : Start) (actions : List Action) (state : State) (before rest : List Moment) (moment : Moment) →
    (n t : ℕ) (value : List ℕ) →
    Acts (start_state main) actions state →
    moments (start_state main) actions ≡ before ++ moment ∷ rest →
    Contains (happenings_by moment) (Set n t value) →
    IsSetAsAsked before moment n t value
