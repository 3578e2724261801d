-- A run goes on by an action that can happen.
use Rattle.std.proofs.Common.{List, [], ◌∷◌, ◌++◌}
use Rattle.laws_shared.specs.Actions.{Action, Acts, CanHappen, after, more, none}
use Rattle.laws_shared.specs.SharedLaws.{GoesOnLaw}
use Rattle.tt_shared.specs.State.{State, start_state}

one_more : (old next : State) (actions : List Action) (action : Action) → Acts old actions next → CanHappen next action →
    Acts old (actions ++ action ∷ []) (after next action)
one_more old next [] action none can = more can none
one_more old next (first ∷ actions) action (more had rest) can = more had (one_more (after old first) next actions action rest can)

pub goes_on : GoesOnLaw
goes_on state action reached can = record {
  main = reached.main;
  actions = reached.actions ++ action ∷ [];
  acts = one_more (start_state reached.main) state reached.actions action reached.acts can;
}
