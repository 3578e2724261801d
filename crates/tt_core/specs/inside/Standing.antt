-- Where a run stands: what ties its parts to the machine after its schedule.
use Rattle.std.specs.Prelude.{◌≡◌, ⊤, ℕ, List, Option, Some, None, IfSome}
use Rattle.tt_calls.specs.declared.request.Request.{Request}
use Rattle.tt_run.specs.Desk.{input_left}
use Rattle.tt_run.specs.declared.desk.Acted.{Acted}
use Rattle.tt_run.specs.declared.fault.StepFault.{StepFault}
use Rattle.tt_run.specs.declared.fault.StepFault.TheVariants as fault
use Rattle.tt_machine.specs.Machine.{Machine, Runs, start_machine}
use Rattle.tt_shared.specs.State.{State}
use Rattle.tt_core.specs.inside.Crew.{ArePlaced, Places}
use Rattle.tt_core.specs.Faithful.{IsFaithful, is_cut}
use Rattle.tt_core.specs.Parts.{HoldsLastPart}
use Rattle.tt_core.specs.Stage.{Stage}
use Rattle.tt_core.specs.declared.told.Telling.{Telling}
use Rattle.tt_core.specs.declared.told.Telling.TheVariants as telling
use Rattle.tt_core.specs.declared.told.Told.{Told}

-- what the threads share, and what standard input still has, are the machine's
pub record IsIts (shared : State) (left : Option (List ℕ)) (machine : Machine) : Type 0 where
  pub is_shared : shared ≡ machine.shared
  pub is_left : left ≡ Some machine.input

-- They are, and its threads are where this says; a read that failed changes nothing of it. After a failed write, or
-- without memory, nothing is said.
abbrev pub IsAt : Option StepFault → State → Option (List ℕ) → (Where : Machine → Type 0) → Machine → Type 0
IsAt None shared left Where machine = IsIts shared left machine × Where machine
IsAt (Some fault.ReadFault) shared left Where machine = IsIts shared left machine × Where machine
IsAt (Some fault.WriteFault) shared left Where machine = ⊤
IsAt (Some fault.NoMemory) shared left Where machine = ⊤
IsAt (Some fault.NotEnabled) shared left Where machine = ⊥

-- the machine after the steps of the schedule, where its threads are, what the source still holds of its input, and
-- what the sinks got of it
pub record Stands {S K E : Type 0}
    (held : S → Option (List ℕ)) (got_out : K → Option (List ℕ)) (got_err : E → Option (List ℕ))
    (stage : Stage S K E) (Where : Machine → Type 0) (begun machine : Machine) : Type 0 where
  pub setup : machine.setup ≡ stage.setup
  pub ran : Runs begun stage.desk.schedule machine
  pub at : IsAt stage.desk.kept stage.desk.shared (input_left held stage.desk.devices) Where machine
  pub input : HoldsLastPart (held stage.desk.devices.input) machine.input
  pub faithful :
      IsFaithful (is_cut stage.desk.kept) begun stage.desk.schedule
      (got_out stage.began.output) (got_out stage.desk.devices.output)
      (got_err stage.began.errors) (got_err stage.desk.devices.errors) machine

-- if the bytes of standard input are known
abbrev pub IsStanding :
    {S K E : Type 0} →
    (held : S → Option (List ℕ)) → (got_out : K → Option (List ℕ)) → (got_err : E → Option (List ℕ)) →
    Stage S K E → (Where : Machine → Type 0) → Type 0
IsStanding held got_out got_err stage Where =
    IfSome (held stage.began.input) (λ input.
    (machine : Machine) × Stands held got_out got_err stage Where (start_machine stage.setup input) machine)

-- its threads are in these places
abbrev pub InPlaces : Places → Machine → Type 0
InPlaces places machine = ArePlaced machine.setup 1 machine.threads places

-- it tells a request and what answering it gave
pub record IsOf (told : Told) (asked : Option Request) (acted : Acted) : Type 0 where
  pub request : asked ≡ Some told.request
  pub reply : told.reply ≡ acted.reply
  pub made : told.made ≡ acted.made

-- a step answers what it was
abbrev pub IsTold : Telling → Type 0
IsTold telling.Nothing = ⊥
IsTold telling.Step = ⊤
