-- A run as what its threads do to what they share.
use Rattle.std.specs.Prelude.{◌≡◌, ◌≤◌, ◌+◌, ◌*◌, ℕ, List, [], ◌∷◌, length, map}
use Rattle.laws_shared.specs.Actions.{Action, Acts, Moment, NumbersFit, after, moments}
use Rattle.laws_shared.specs.Orderly.{IsOrderly}
use Rattle.tt_kept.specs.declared.setup.Setup.{Setup}
use Rattle.tt_machine.specs.Machine.{Machine, Runs, Steps, none, more, start_machine}

-- the action of a step: what its thread asks is answered, with the line that was read for it
abbrev pub step_action : {old next : Machine} {number : ℕ} → Steps old number next → Action
step_action {number = number} step =
    record { thread = number; request = step.can.request; line = step.line }

-- the actions of the steps of a run, each with what the threads shared before it
abbrev pub run_moments : {old new : Machine} {schedule : List ℕ} → Runs old schedule new → List Moment
run_moments none = []
run_moments (more {old = old} step rest) =
    (record { before = old.shared; action = step_action step }) ∷ run_moments rest

abbrev pub run_actions : {old new : Machine} {schedule : List ℕ} → Runs old schedule new → List Action
run_actions ran = map (λ moment. moment.action) (run_moments ran)

-- An action for each step, by its thread. What the threads share is what these make of it, from step to step.
pub record HasActions {old new : Machine} {schedule : List ℕ} (ran : Runs old schedule new) : Type 0 where
  pub threads : map (λ action. action.thread) (run_actions ran) ≡ schedule
  pub acts : Acts old.shared (run_actions ran) new.shared
  pub before : moments old.shared (run_actions ran) ≡ run_moments ran

-- each run has its actions
abbrev pub RunActionsLaw : Type 0
RunActionsLaw = (old new : Machine) (schedule : List ℕ) (ran : Runs old schedule new) → HasActions ran

-- a step of a thread as what it does to what the threads share, and what that keeps to
pub record StepsOrderly (number : ℕ) (machine : Machine) : Type 0 where
  pub next : Machine
  pub steps : Steps machine number next
  pub shared : next.shared ≡ after machine.shared (step_action steps)
  pub orderly : IsOrderly (record { before = machine.shared; action = step_action steps })

-- each step of a run is so, while the numbers of channels fit
abbrev pub OrderlyStepLaw : Type 0
OrderlyStepLaw =
    (setup : Setup) (input : List ℕ) (machine next : Machine) (schedule : List ℕ) (number : ℕ) →
    Runs (start_machine setup input) schedule machine →
    Steps machine number next →
    NumbersFit next.shared →
    StepsOrderly number machine

-- and they fit, for a step draws two at most
abbrev pub FewChannelsLaw : Type 0
FewChannelsLaw =
    (setup : Setup) (input : List ℕ) (machine : Machine) (schedule : List ℕ) →
    Runs (start_machine setup input) schedule machine →
    machine.shared.channels.next ≤ 1 + 2 * length schedule
