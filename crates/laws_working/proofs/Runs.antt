-- What holds of jobs of pools in every run.
use Rattle.std.proofs.Common.{ℕ, List, [], ◌∷◌}
use Rattle.std.proofs.Common.{sym, subst}
use Rattle.std.proofs.lemmas.List.Elements.{All-cons, All-nil}
use Rattle.std.specs.List.{All}
use Rattle.laws_pools.proofs.Workers.{workers_begin}
use Rattle.laws_pools.specs.PoolWorkers.{AsksAsWorker}
use Rattle.laws_shared.specs.Actions.{Moment}
use Rattle.laws_shared.specs.Actions.{Moment}
use Rattle.laws_working.proofs.Machines.{Working, asks_so, at_start, hands_in_so, works_on}
use Rattle.laws_working.specs.WorkedRuns.{AskingLaw, HandingInLaw, HandsInOwn, WorkedLaw}
use Rattle.tt_calls.specs.declared.start.Start.TheVariants as start
use Rattle.tt_machine.proofs.RunActionLemmas.{has_actions}
use Rattle.tt_machine.specs.Machine.{Machine, Runs, Steps, more, none, start_machine}
use Rattle.tt_machine.specs.RunActions.{run_actions, run_moments, step_action}

module _ (P : Moment → Type 0) (each : (old next : Machine) (number : ℕ) (step : Steps old number next) → Working old
    → P (record { before = old.shared; action = step_action step })) where
  along : (old new : Machine) (schedule : List ℕ) (ran : Runs old schedule new) → Working old → All P (run_moments ran)
  along old new [] none working = All-nil P
  along old new (number ∷ schedule) (more {next = next} step rest) working =
      let here : Moment = record { before = old.shared; action = step_action step } in
      All-cons P here (run_moments rest) (each old next number step working) (along next new schedule rest (works_on old number step working))

pub asking_law : AskingLaw
asking_law setup input machine schedule ran =
    along AsksAsWorker (λ old next number step working. asks_so old number step working) (start_machine setup input) machine schedule ran
    (at_start setup input)

pub handing_in_law : HandingInLaw
handing_in_law setup input machine schedule ran =
    along HandsInOwn (λ old next number step working. hands_in_so old number step working) (start_machine setup input) machine schedule ran
    (at_start setup input)

pub worked_law : WorkedLaw
worked_law setup input machine schedule ran p n t there =
    let has = has_actions (start_machine setup input) machine schedule ran in
    workers_begin (start.Script setup.script) (run_actions ran) machine.shared p n t has.acts
    (subst (All AsksAsWorker) (sym has.before) (asking_law setup input machine schedule ran)) there
