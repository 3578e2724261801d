-- What a run stands on between its steps: what its threads share, its schedule, its devices, and the fault that it met.
use Rattle.std.specs.Prelude.{ℕ, Bool, ◌&&◌, List, Option, is_none}
use Rattle.std.specs.Io.KnownBytes.{prepend_known}
use Rattle.tt_calls.specs.declared.request.Request.{Request}
use Rattle.tt_run.specs.declared.fault.StepFault.{StepFault}
use Rattle.tt_shared.specs.Enabled.{enabled}
use Rattle.tt_shared.specs.State.{State}
use Rattle.tt_threads.specs.Rows.{is_living}

-- standard input with what was read ahead of it, standard output and standard error
pub record Devices (S K E : Type 0) : Type 0 where
  pub input : S
  pub ahead : List ℕ
  pub output : K
  pub errors : E

-- what the threads share, the steps that were taken, the devices, and the fault or the want of memory that was met
pub record Ground (S K E : Type 0) : Type 0 where
  pub shared : State
  pub schedule : List ℕ
  pub devices : Devices S K E
  pub kept : Option StepFault

-- what standard input still has, if it shows that
abbrev pub input_left : {S K E : Type 0} → (held : S → Option (List ℕ)) → Devices S K E → Option (List ℕ)
input_left held devices = prepend_known devices.ahead (held devices.input)

-- a thread that lives can be answered its request, if the run is not over and nothing was met
abbrev pub can_act : {S K E : Type 0} → Ground S K E → (thread : ℕ) → Request → Bool
can_act desk thread request =
    is_none desk.kept
    && is_none desk.shared.over
    && is_living desk.shared.rows thread
    && enabled desk.shared thread request
