-- How a run ends.
use Rattle.std.specs.Prelude.{◌≡◌, ◌⊎◌, ⊤, ℕ, List, length, Option, Some, None}
use Rattle.tt_core.specs.Faithful.{AsksLine}
use Rattle.tt_run.specs.declared.fault.StepFault.{StepFault}
use Rattle.tt_run.specs.declared.fault.StepFault.TheVariants as fault
use Rattle.tt_devices.specs.Faults.{Rises}
use Rattle.tt_machine.specs.Machine.{CanStep, IsStuck, Machine}
use Rattle.tt_workers.specs.declared.next.RunEnd.{RunEnd}
use Rattle.tt_workers.specs.declared.next.RunEnd.TheVariants.{Over, Stuck, Limit, Read, Write, Memory}

-- the fault or the want of memory that an end comes of
abbrev pub end_fault : RunEnd → Option StepFault
end_fault (Over code) = None
end_fault Stuck = None
end_fault Limit = None
end_fault Read = Some fault.ReadFault
end_fault Write = Some fault.WriteFault
end_fault Memory = Some fault.NoMemory

-- the same, if there is an end
abbrev pub fault_so_far : Option RunEnd → Option StepFault
fault_so_far None = None
fault_so_far (Some end) = end_fault end

-- the most steps were taken, and some thread could take one more
pub record IsAtLimit (steps : ℕ) (schedule : List ℕ) (machine : Machine) : Type 0 where
  pub full : length schedule ≡ steps
  pub number : ℕ
  pub can : CanStep machine number

-- some thread that can take a step asks for a line of standard input
pub record IsAtLine (machine : Machine) : Type 0 where
  pub number : ℕ
  pub asks : AsksLine number machine

-- What an end says of the machine after the steps: it is over with this code; no thread can take a step, and it isn't
-- over; the limit was met; standard input failed, for which some thread asks. If a write failed or memory was refused,
-- it says nothing.
abbrev pub IsEnd : (steps : ℕ) → (schedule : List ℕ) → RunEnd → Machine → Type 0
IsEnd steps schedule (Over code) machine = machine.shared.over ≡ Some code
IsEnd steps schedule Stuck machine = IsStuck machine
IsEnd steps schedule Limit machine = IsAtLimit steps schedule machine
IsEnd steps schedule Read machine = IsAtLine machine
IsEnd steps schedule Write machine = ⊤
IsEnd steps schedule Memory machine = ⊤

-- the source's count of faults rose at Read alone
abbrev pub ReadsCount : Option RunEnd → (old new : ℕ) → Type 0
ReadsCount (Some Read) old new = Rises old new
ReadsCount None old new = new ≡ old
ReadsCount (Some (Over code)) old new = new ≡ old
ReadsCount (Some Stuck) old new = new ≡ old
ReadsCount (Some Limit) old new = new ≡ old
ReadsCount (Some Write) old new = new ≡ old
ReadsCount (Some Memory) old new = new ≡ old

-- a sink's count of faults rose at Write alone
abbrev pub WritesCount : Option RunEnd → (old_out new_out old_err new_err : ℕ) → Type 0
WritesCount (Some Write) old_out new_out old_err new_err = Rises old_out new_out ⊎ Rises old_err new_err
WritesCount None old_out new_out old_err new_err = (new_out ≡ old_out) × (new_err ≡ old_err)
WritesCount (Some (Over code)) old_out new_out old_err new_err = (new_out ≡ old_out) × (new_err ≡ old_err)
WritesCount (Some Stuck) old_out new_out old_err new_err = (new_out ≡ old_out) × (new_err ≡ old_err)
WritesCount (Some Limit) old_out new_out old_err new_err = (new_out ≡ old_out) × (new_err ≡ old_err)
WritesCount (Some Read) old_out new_out old_err new_err = (new_out ≡ old_out) × (new_err ≡ old_err)
WritesCount (Some Memory) old_out new_out old_err new_err = (new_out ≡ old_out) × (new_err ≡ old_err)
