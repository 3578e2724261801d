-- How a run ends, in the machine after its steps.
use Rattle.std.specs.Prelude.{◌≡◌, ⊤, ℕ, suc, List, ◌∷◌, ◌++◌, length, Option, Some, None, IsSome}
use Rattle.tt_core.specs.Faithful.{AsksLine}
use Rattle.tt_run.specs.declared.fault.StepFault.{StepFault}
use Rattle.tt_run.specs.declared.fault.StepFault.TheVariants as fault
use Rattle.tt_machine.specs.Machine.{CanStep, IsBarred, IsStuck, Machine}
use Rattle.tt_session.specs.Choosing.{Freely, InTurn, IsDue, Mode, Replaying, limit_of}
use Rattle.tt_session.specs.declared.status.End.{End}
use Rattle.tt_session.specs.declared.status.End.TheVariants.{Done, ScheduleEnded, Barred, Stalled, StepLimit}
use Rattle.tt_session.specs.declared.status.End.TheVariants.{ReadFault, WriteFault, NoMemory}

-- a given list was taken to its end
abbrev pub IsWhole : Mode → (schedule : List ℕ) → Type 0
IsWhole (Replaying given) schedule = schedule ≡ given
IsWhole (InTurn steps) schedule = ⊤
IsWhole (Freely steps) schedule = ⊤

-- the machine can't take the next step of the list, which has this number, counted from 1
pub record IsRefused (number : ℕ) (mode : Mode) (machine : Machine) (schedule : List ℕ) : Type 0 where
  pub thread : ℕ
  pub later : List ℕ
  pub next : mode ≡ Replaying (schedule ++ thread ∷ later)
  pub number_is : number ≡ suc (length schedule)
  pub refused : IsBarred machine thread

-- there are as many steps as there may be, and a thread could go on
pub record IsFull (steps : ℕ) (mode : Mode) (machine : Machine) (schedule : List ℕ) : Type 0 where
  pub limit : limit_of mode ≡ Some steps
  pub full : length schedule ≡ steps
  pub thread : ℕ
  pub can : CanStep machine thread

-- the thread of the next step can take it, and asks for a line of standard input
pub record StopsAtLine (mode : Mode) (machine : Machine) (schedule : List ℕ) : Type 0 where
  pub thread : ℕ
  pub due : IsDue mode machine schedule thread
  pub asks : AsksLine thread machine

-- How a run ends: over, after the whole list if one is given; after the whole list, and not over; before a step of the
-- list that can't be taken; when no thread can go on; at the limit; at a line that can't be read; or cut off.
abbrev pub EndsAs : End → Mode → Machine → (schedule : List ℕ) → Type 0
EndsAs (Done code) mode machine schedule = IsWhole mode schedule × (machine.shared.over ≡ Some code)
EndsAs ScheduleEnded mode machine schedule = (mode ≡ Replaying schedule) × (machine.shared.over ≡ None)
EndsAs (Barred number) mode machine schedule = IsRefused number mode machine schedule
EndsAs Stalled mode machine schedule = IsSome (limit_of mode) × IsStuck machine
EndsAs (StepLimit steps) mode machine schedule = IsFull steps mode machine schedule
EndsAs ReadFault mode machine schedule = StopsAtLine mode machine schedule
EndsAs WriteFault mode machine schedule = ⊤
EndsAs NoMemory mode machine schedule = ⊤

-- the fault or the want of memory that cut a run off
abbrev pub cause_of : End → Option StepFault
cause_of ReadFault = Some fault.ReadFault
cause_of WriteFault = Some fault.WriteFault
cause_of NoMemory = Some fault.NoMemory
cause_of end = None
