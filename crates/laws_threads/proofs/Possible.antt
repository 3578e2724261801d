-- Actions of which each can happen, as a test says.
use Rattle.std.proofs.Common.{◌≡◌, ◌&&◌, Bool, true, false, IsTrue, List, [], ◌∷◌, refl}
use Rattle.std.specs.List.{fold}
use Rattle.laws_shared.specs.Actions.{Action, Acts, after, more, none}
use Rattle.tt_shared.specs.Enabled.{enabled}
use Rattle.tt_shared.specs.State.{State}
use Rattle.tt_threads.specs.Rows.{is_living}

abbrev pub all_can : State → List Action → Bool
all_can state [] = true
all_can state (action ∷ actions) =
    is_living state.rows action.thread && (enabled state action.thread action.request && all_can (after state action) actions)

both : (a b : Bool) → a && b ≡ true → (IsTrue a) × (b ≡ true)
both true b is = (refl, is)
both false b is = absurd (cc is)

pub acts_of : (state : State) (actions : List Action) → all_can state actions ≡ true → Acts state actions (fold after state actions)
acts_of state [] is = none
acts_of state (action ∷ actions) is =
    let first = both (is_living state.rows action.thread) _ is in
    let second = both (enabled state action.thread action.request) _ first.1 in
    more (record { lives = first.0; enabled = second.0 }) (acts_of (after state action) actions second.1)
