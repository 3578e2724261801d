-- What threads do to what they share, one action after the other (thread(n)).
use Rattle.std.specs.Prelude.{◌<◌, ◌^◌, ℕ, IsTrue, List, [], ◌∷◌}
use Rattle.tt_calls.specs.declared.request.Request.{Request}
use Rattle.tt_calls.specs.declared.start.Start.{Start}
use Rattle.tt_shared.specs.Acts.{act}
use Rattle.tt_shared.specs.Enabled.{enabled}
use Rattle.tt_shared.specs.State.{Acted, State, start_state}
use Rattle.tt_shared.specs.declared.applied.Line.{Line}
use Rattle.tt_threads.specs.Rows.{is_living}

-- a request of a thread is answered; `line` is what was read of standard input for it
pub record Action : Type 0 where
  pub thread : ℕ
  pub request : Request
  pub line : Line

-- what an action gives, and the state after it
abbrev pub action_result : State → Action → Acted
action_result state action = act state action.thread action.request action.line

abbrev pub after : State → Action → State
after state action = (action_result state action).state

-- an action can happen: its thread lives, and need not wait
pub record CanHappen (state : State) (action : Action) : Type 0 where
  pub lives : IsTrue (is_living state.rows action.thread)
  pub enabled : IsTrue (enabled state action.thread action.request)

-- the state after a list of actions, each of which could happen when it did
pub data Acts : State → List Action → State → Type 0 where
  none : {state : State} → Acts state [] state
  more : {old new : State} {action : Action} {actions : List Action} →
      CanHappen old action →
      Acts (after old action) actions new →
      Acts old (action ∷ actions) new

-- an action, and the state that it happened in
pub record Moment : Type 0 where
  pub before : State
  pub action : Action

-- a list of actions, one after the other from a state
abbrev pub moments : State → List Action → List Moment
moments state [] = []
moments state (action ∷ actions) =
    (record { before = state; action = action }) ∷ moments (after state action) actions

-- ---- whole runs ----

-- a state to which actions lead from the start, when main alone is there
pub record Reached (state : State) : Type 0 where
  pub main : Start
  pub actions : List Action
  pub acts : Acts (start_state main) actions state

-- The numbers of the channels fit in 64 bits: each new pipe draws two, and the program makes none past that.
abbrev pub NumbersFit : State → Type 0
NumbersFit state = state.channels.next < 2 ^ 64
