-- A system as contracts see it: how it began, what it stands on, and the machine after its schedule.
use Rattle.std.specs.Prelude.{◌≡◌, ◌<◌, ◌≤◌, ◌⊎◌, ℕ, List, Option, Some, None, IfSome}
use Rattle.tt_run.specs.Desk.{Ground}
use Rattle.tt_kept.specs.declared.setup.Setup.{Setup}
use Rattle.tt_machine.specs.Machine.{CanStep, IsBarred, Machine, Runs, start_machine}

-- the devices as they were given
pub record Began (S K E : Type 0) : Type 0 where
  pub input : S
  pub output : K
  pub errors : E

pub record Stage (S K E : Type 0) : Type 0 where
  pub setup : Setup
  pub began : Began S K E
  pub desk : Ground S K E

-- if the bytes of standard input are known, there is the machine after the schedule, and this holds of it
abbrev pub OfMachine :
    {S K E : Type 0} → (held : S → Option (List ℕ)) → Stage S K E → (Machine → Type 0) → Type 0
OfMachine held stage fact =
    IfSome (held stage.began.input) (λ input.
    (machine : Machine) × Runs (start_machine stage.setup input) stage.desk.schedule machine × fact machine)

-- how it began stays
pub record SameBeginning {S K E : Type 0} (old new : Stage S K E) : Type 0 where
  pub setup : new.setup ≡ old.setup
  pub began : new.began ≡ old.began

-- the threads above one, and then those up to it, are asked in turn: the first that can take a step is next
abbrev pub IsNextAfter : (after : ℕ) → Option ℕ → Machine → Type 0
IsNextAfter after None machine = (number : ℕ) → IsBarred machine number
IsNextAfter after (Some next) machine =
    CanStep machine next
    × (((after < next) × ((number : ℕ) → after < number → number < next → IsBarred machine number))
    ⊎ ((next ≤ after)
    × ((number : ℕ) → after < number → IsBarred machine number)
    × ((number : ℕ) → number < next → IsBarred machine number)))
