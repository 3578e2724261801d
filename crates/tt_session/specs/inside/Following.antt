-- What is said of files before a run, and of a system while it goes on.
use Rattle.std.specs.Prelude.{◌≡◌, ⊤, ℕ, List, Option, None, IfSome}
use Rattle.tt_core.specs.Stage.{Stage}
use Rattle.tt_devices.specs.Names.{HasName, Names, Tells}
use Rattle.tt_machine.specs.Machine.{Machine, Runs, start_machine}
use Rattle.tt_workers.specs.declared.next.RunEnd.{RunEnd}
use Rattle.tt_workers.specs.declared.next.RunEnd.TheVariants.{Over, Stuck, Limit, Read, Write, Memory}
use Rattle.tt_session.specs.declared.status.End.{End}
use Rattle.tt_session.specs.declared.status.End.TheVariants as ends
use Rattle.tt_session.specs.declared.status.Refusal.{Refusal}
use Rattle.tt_session.specs.declared.status.Refusal.TheVariants.{NoFile, ReadFault, NoMemory}

-- if the bytes of standard input are known, this holds of the machine at the start and of the one after the schedule
abbrev pub AtRun :
    {S K E : Type 0} → (held : S → Option (List ℕ)) → Stage S K E → (Machine → Machine → Type 0) → Type 0
AtRun held stage fact =
    IfSome (held stage.began.input) (λ input.
    (machine : Machine) →
    Runs (start_machine stage.setup input) stage.desk.schedule machine →
    fact (start_machine stage.setup input) machine)

-- how a run on workers ends, in at most so many steps
abbrev pub worker_end : RunEnd → (steps : ℕ) → End
worker_end (Over code) steps = ends.Done code
worker_end Stuck steps = ends.Stalled
worker_end Limit steps = ends.StepLimit steps
worker_end Read steps = ends.ReadFault
worker_end Write steps = ends.WriteFault
worker_end Memory steps = ends.NoMemory

-- why there are no bytes of a file
abbrev pub IsFileRefusal : Refusal → Option Names → List ℕ → Type 0
IsFileRefusal (NoFile missing) names name = (missing ≡ name) × Tells names name None
IsFileRefusal ReadFault names name = HasName names name
IsFileRefusal NoMemory names name = ⊤
IsFileRefusal why names name = ⊥
