-- How the steps of a run are chosen.
use Rattle.std.specs.Prelude.{◌≤◌, ⊤, ℕ, List, [], ◌∷◌, ◌++◌, length, Option, Some, None}
use Rattle.tt_core.specs.Stage.{IsNextAfter}
use Rattle.tt_machine.specs.Machine.{Machine, Steps}
use Rattle.tt_core.specs.Parts.{IsFirstPart}
use Rattle.tt_schedule.specs.ScheduleText.{most_steps}
use Rattle.tt_session.specs.declared.run.Course.{Course}
use Rattle.tt_session.specs.declared.run.Course.TheVariants as course

-- a given list, or at most so many steps: of the threads in turn, or of any
pub data Mode : Type 0 where
  Replaying : (given : List ℕ) → Mode
  InTurn : (steps : ℕ) → Mode
  Freely : (steps : ℕ) → Mode

-- how the steps of a course are chosen: along a list, which its threads may leave, a step may be any thread's
abbrev pub mode_of : Course → Mode
mode_of (course.After given) = Replaying given.threads
mode_of (course.InTurn steps) = InTurn steps
mode_of (course.Along given steps) = Freely steps

-- a schedule has room for the steps of a course
abbrev pub HasRoom : Course → Type 0
HasRoom (course.After given) = ⊤
HasRoom (course.InTurn steps) = steps ≤ most_steps
HasRoom (course.Along given steps) = steps ≤ most_steps

-- the most steps, if no list is given
abbrev pub limit_of : Mode → Option ℕ
limit_of (Replaying given) = None
limit_of (InTurn steps) = Some steps
limit_of (Freely steps) = Some steps

-- the steps of a run are a first part of the list, or at most so many
abbrev pub Allows : Mode → (schedule : List ℕ) → Type 0
Allows (Replaying given) schedule = IsFirstPart schedule given
Allows (InTurn steps) schedule = length schedule ≤ steps
Allows (Freely steps) schedule = length schedule ≤ steps

-- from this machine each step is of the thread that is next in turn after the one before it: at first after this number
pub data TakesTurns : (after : ℕ) → Machine → (schedule : List ℕ) → Type 0 where
  none : {after : ℕ} {machine : Machine} → TakesTurns after machine []
  more : {after thread : ℕ} {old new : Machine} {schedule : List ℕ} →
      IsNextAfter after (Some thread) old →
      Steps old thread new →
      TakesTurns thread new schedule →
      TakesTurns after old (thread ∷ schedule)

-- the machine before each step has a say in it if threads take turns
abbrev pub Chooses : Mode → (begun : Machine) → (schedule : List ℕ) → Type 0
Chooses (Replaying given) begun schedule = ⊤
Chooses (InTurn steps) begun schedule = TakesTurns 0 begun schedule
Chooses (Freely steps) begun schedule = ⊤

-- the thread of the last step, or this number if there is none
abbrev pub last_of : (before : ℕ) → (schedule : List ℕ) → ℕ
last_of before [] = before
last_of before (thread ∷ schedule) = last_of thread schedule

-- the thread of the next step: the list's next, the one that is next in turn, or any
abbrev pub IsDue : Mode → Machine → (schedule : List ℕ) → (thread : ℕ) → Type 0
IsDue (Replaying given) machine schedule thread = IsFirstPart (schedule ++ thread ∷ []) given
IsDue (InTurn steps) machine schedule thread = IsNextAfter (last_of 0 schedule) (Some thread) machine
IsDue (Freely steps) machine schedule thread = ⊤
