-- What holds of the machine.
use Rattle.std.specs.Prelude.{◌≡◌, ℕ, List, ◌∷◌, [], ◌++◌}
use Rattle.tt_machine.specs.Machine.{Machine, CanStep, IsBarred, Runs, Steps}

-- a step has one outcome
abbrev pub OneStepLaw : Type 0
OneStepLaw = (old one other : Machine) (number : ℕ) → Steps old number one → Steps old number other → one ≡ other

-- a thread that is barred can take none
abbrev pub BarredLaw : Type 0
BarredLaw = (machine : Machine) (number : ℕ) → CanStep machine number → ¬ (IsBarred machine number)

-- a schedule has one run
abbrev pub OneRunLaw : Type 0
OneRunLaw =
    (old one other : Machine) (schedule : List ℕ) → Runs old schedule one → Runs old schedule other → one ≡ other

-- a run goes on by one step
abbrev pub OneMoreLaw : Type 0
OneMoreLaw =
    (old next new : Machine) (schedule : List ℕ) (number : ℕ) →
    Runs old schedule next →
    Steps next number new →
    Runs old (schedule ++ number ∷ []) new
