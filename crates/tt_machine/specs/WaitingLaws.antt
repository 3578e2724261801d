-- What holds of the list of the threads that wait.
use Rattle.std.specs.Prelude.{◌≡◌, ◌≤◌, ℕ, suc, List, [], ◌∷◌, ◌++◌, length, Some}
use Rattle.tt_machine.specs.Machine.{Machine}
use Rattle.tt_machine.specs.Waiting.{AreWaiting, AreWaitingUpTo, HasToWait}
use Rattle.tt_waits.specs.Waiting.{Waiting}

-- there is one such list
abbrev pub OneWaitingLaw : Type 0
OneWaitingLaw =
    (machine : Machine) (one other : List Waiting) → AreWaiting machine one → AreWaiting machine other → one ≡ other

-- it grows thread by thread: by the next one if that waits; once the run is over it is empty
pub record WaitingGrowsLaw : Type 0 where
  pub none : (machine : Machine) → AreWaitingUpTo machine 0 []
  pub waits :
      (machine : Machine) (last : ℕ) (others : List ℕ) (waiting : List Waiting) →
      AreWaitingUpTo machine last waiting →
      HasToWait machine (suc last) others →
      AreWaitingUpTo machine (suc last) (waiting ++ (record { thread = suc last; others = others }) ∷ [])
  pub goes :
      (machine : Machine) (last : ℕ) (waiting : List Waiting) →
      AreWaitingUpTo machine last waiting →
      ((others : List ℕ) → ¬ (HasToWait machine (suc last) others)) →
      AreWaitingUpTo machine (suc last) waiting
  pub all :
      (machine : Machine) (last : ℕ) (waiting : List Waiting) →
      length machine.threads ≤ last →
      AreWaitingUpTo machine last waiting →
      AreWaiting machine waiting
  pub over : (machine : Machine) (code : ℕ) → machine.shared.over ≡ Some code → AreWaiting machine []
