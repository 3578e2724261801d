-- What sinks got of what the machine wrote.
use Rattle.std.specs.Prelude.{◌≡◌, ◌≢◌, ◌⊎◌, ℕ, Bool, true, false, List, [], ◌∷◌, ◌++◌, Option, Some, None, IfSome}
use Rattle.tt_run.specs.declared.fault.StepFault.{StepFault}
use Rattle.tt_run.specs.declared.fault.StepFault.TheVariants as fault
use Rattle.tt_devices.specs.Streams.{Grows}
use Rattle.tt_lines.specs.Lines.{reads_line}
use Rattle.tt_machine.specs.Machine.{CanStep, Machine, Runs, Steps, start_machine}
use Rattle.tt_core.specs.Stage.{Stage}

-- a failed write may have cut a piece short
abbrev pub is_cut : Option StepFault → Bool
is_cut None = false
is_cut (Some fault.NotEnabled) = false
is_cut (Some fault.ReadFault) = false
is_cut (Some fault.WriteFault) = true
is_cut (Some fault.NoMemory) = false

-- what was written lacks at most a part of what the last entry wrote: the rest of its piece
pub record IsCutShort (begun : Machine) (schedule : List ℕ) (old new : Option (List ℕ))
    (written : Machine → List ℕ) (machine : Machine) : Type 0 where
  pub earlier : List ℕ
  pub last : ℕ
  pub entries : schedule ≡ earlier ++ last ∷ []
  pub before : Machine
  pub ran : Runs begun earlier before
  pub part : List ℕ
  pub rest : List ℕ
  pub cut : written machine ≡ (written before ++ part) ++ rest
  pub grew : Grows old new (written before ++ part)

-- what a sink got is what the machine wrote, cut short if that write failed
abbrev pub HasWritten :
    (cut : Bool) → (begun : Machine) → (schedule : List ℕ) → (old new : Option (List ℕ)) →
    (written : Machine → List ℕ) → Machine → Type 0
HasWritten true begun schedule old new written machine = IsCutShort begun schedule old new written machine
HasWritten false begun schedule old new written machine = Grows old new (written machine)

-- both sinks got what the machine wrote
pub record IsFaithful (cut : Bool) (begun : Machine) (schedule : List ℕ)
    (old_out new_out old_err new_err : Option (List ℕ)) (machine : Machine) : Type 0 where
  pub out : HasWritten cut begun schedule old_out new_out (λ m. m.out) machine
  pub err : HasWritten cut begun schedule old_err new_err (λ m. m.err) machine

-- if the bytes of standard input are known, they got what the machine after the schedule wrote
abbrev pub AreFaithful :
    {S K E : Type 0} →
    (held : S → Option (List ℕ)) → (got_out : K → Option (List ℕ)) → (got_err : E → Option (List ℕ)) →
    Stage S K E → Type 0
AreFaithful held got_out got_err stage =
    IfSome (held stage.began.input) (λ input.
    (machine : Machine)
    × Runs (start_machine stage.setup input) stage.desk.schedule machine
    × IsFaithful (is_cut stage.desk.kept) (start_machine stage.setup input) stage.desk.schedule
    (got_out stage.began.output) (got_out stage.desk.devices.output)
    (got_err stage.began.errors) (got_err stage.desk.devices.errors) machine)

-- ---- what a fault is met at ----

-- a thread that can take a step, and asks for a line of standard input (gets(n))
pub record AsksLine (number : ℕ) (machine : Machine) : Type 0 where
  pub can : CanStep machine number
  pub line : reads_line can.request ≡ true

-- a thread whose step writes something
pub record StepWrites (number : ℕ) (machine : Machine) : Type 0 where
  pub next : Machine
  pub steps : Steps machine number next
  pub writes : (next.out ≢ machine.out) ⊎ (next.err ≢ machine.err)
