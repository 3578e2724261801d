-- A run as what its threads do to what they share.
use Rattle.std.proofs.Common.{◌≡◌, ◌∙◌, ℕ, List, [], ◌∷◌, map, ap, arith, length, refl, subst, sym}
use Rattle.std.proofs.lemmas.List.{length-map}
use Rattle.tt_calls.specs.declared.start.Start.TheVariants as start
use Rattle.laws_shared.proofs.Drawn.{up_along}
use Rattle.laws_shared.proofs.Orderly.{orderly}
use Rattle.laws_shared.specs.Actions.{Action, Acts, Moment, NumbersFit, Reached, after, moments, none as nothing, more as then}
use Rattle.tt_kept.specs.declared.setup.Setup.{Setup}
use Rattle.tt_machine.specs.Machine.{Machine, Runs, Steps, none, more, start_machine}
use Rattle.tt_machine.specs.RunActions.{FewChannelsLaw, HasActions, OrderlyStepLaw, run_actions, run_moments, step_action}
use Rattle.tt_shared.specs.State.{State}

shared_after : {old next : Machine} {number : ℕ} → (step : Steps old number next) → next.shared ≡ after old.shared (step_action step)
shared_after step = ap (λ (machine : Machine). machine.shared) step.becomes

pub has_actions : (old new : Machine) (schedule : List ℕ) (ran : Runs old schedule new) → HasActions ran
has_actions old new [] none = record { threads = refl; acts = nothing; before = refl }
has_actions old new (number ∷ schedule) (more {next = next} step rest) =
    let later = has_actions next new schedule rest in
    let here : Moment = record { before = old.shared; action = step_action step } in
    record {
      threads = ap (λ (numbers : List ℕ). number ∷ numbers) later.threads;
      acts = then (record { lives = step.can.asks.lives; enabled = step.can.enabled })
          (subst (λ (state : State). Acts state (run_actions rest) new.shared) (shared_after step) later.acts);
      before = ap (λ (list : List Moment). here ∷ list)
          (ap (λ (state : State). moments state (run_actions rest)) (sym (shared_after step)) ∙ later.before);
    }

-- what a run reaches
pub reached : (setup : Setup) (input : List ℕ) (machine : Machine) (schedule : List ℕ)
    → Runs (start_machine setup input) schedule machine → Reached machine.shared
reached setup input machine schedule ran = record {
  main = start.Script setup.script;
  actions = run_actions ran;
  acts = (has_actions (start_machine setup input) machine schedule ran).acts;
}

pub steps_orderly : OrderlyStepLaw
steps_orderly setup input machine next schedule number ran step fits = record {
  next = next;
  steps = step;
  shared = shared_after step;
  orderly = orderly (record { before = machine.shared; action = step_action step }) (reached setup input machine schedule ran)
      (record { lives = step.can.asks.lives; enabled = step.can.enabled })
      (subst NumbersFit (shared_after step) fits);
}

pub few_channels : FewChannelsLaw
few_channels setup input machine schedule ran =
    let has = has_actions (start_machine setup input) machine schedule ran in
    let few = (up_along (start_machine setup input).shared machine.shared (run_actions ran) has.acts).few in
    let many : length (run_actions ran) ≡ length schedule =
    sym (length-map (run_actions ran) (λ (action : Action). action.thread)) ∙ ap length has.threads in
    omega (arith, few, many)
