-- The report of who waits for whom in a machine (thread(n), tsv(n), chan(n)).
use Rattle.std.specs.Prelude.{ℕ, List}
use Rattle.tt_machine.specs.Machine.{Machine}
use Rattle.tt_machine.specs.Waiting.{AreWaiting}
use Rattle.tt_reports.specs.WaitsText.{IsWaitsText}
use Rattle.tt_waits.specs.Waiting.{Waiting}

-- the report on the threads that wait, all of them (thread(n))
pub record IsWaitsReport (text : List ℕ) (machine : Machine) : Type 0 where
  pub waiting : List Waiting
  pub are : AreWaiting machine waiting
  pub is_text : IsWaitsText waiting text
