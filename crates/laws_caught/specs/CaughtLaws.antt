-- Threads that wait for one another, in every run that goes on from there (thread(n), tsv(n), chan(n)).
use Rattle.std.specs.Prelude.{◌≡◌, ℕ, List, None}
use Rattle.std.specs.List.{Contains}
use Rattle.laws_caught.specs.WaitLaws.{AllFit}
use Rattle.tt_kept.specs.declared.setup.Setup.{Setup}
use Rattle.tt_machine.specs.Machine.{Machine, Runs, start_machine}
use Rattle.tt_machine.specs.Waiting.{AreWaiting, WaitsFor}
use Rattle.tt_reports.specs.WaitsText.{IsWaitsText}
use Rattle.tt_waits.specs.Waiting.{Waiting}

-- a thread waits for one of these
pub record WaitsForOneOf (machine : Machine) (threads : List ℕ) (t : ℕ) : Type 0 where
  pub other : ℕ
  pub waits : WaitsFor machine t other
  pub among : Contains threads other

-- each of them does
abbrev pub AreCaught : Machine → List ℕ → Type 0
AreCaught machine threads = (t : ℕ) → Contains threads t → WaitsForOneOf machine threads t

-- None of them takes a step in any run from there; and until that is over, each still waits for one of them.
pub record StayCaught (threads later : List ℕ) (new : Machine) : Type 0 where
  pub no_steps : (t : ℕ) → Contains threads t → ¬ (Contains later t)
  pub still : new.shared.over ≡ None → AreCaught new threads

abbrev pub CaughtStayLaw : Type 0
CaughtStayLaw =
    (setup : Setup) (input : List ℕ) (machine new : Machine) (schedule later threads : List ℕ) →
    Runs (start_machine setup input) schedule machine →
    Runs machine later new →
    AllFit new.shared →
    AreCaught machine threads →
    StayCaught threads later new

-- the threads that the line `deadlock` of a report names take no step in any run that goes on from its machine
abbrev pub DeadlockLaw : Type 0
DeadlockLaw =
    (setup : Setup) (input text : List ℕ) (machine new : Machine) (schedule later : List ℕ) (waiting : List Waiting) →
    Runs (start_machine setup input) schedule machine →
    Runs machine later new →
    AllFit new.shared →
    AreWaiting machine waiting →
    (report : IsWaitsText waiting text) →
    StayCaught report.caught later new
