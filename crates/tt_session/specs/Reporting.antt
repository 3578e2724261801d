-- What a replay reports of itself after its status line: who waits for whom, or which steps race.
use Rattle.std.specs.Prelude.{◌≡◌, ℕ, List, [], Option, IfSome}
use Rattle.tt_before.specs.RaceLists.{AreRacesOf}
use Rattle.tt_before.specs.Steps.{Entry}
use Rattle.tt_before.specs.declared.race.Races.{Races as AllRaces}
use Rattle.tt_kept.specs.declared.setup.Setup.{Setup}
use Rattle.tt_machine.specs.Machine.{Machine, Runs, start_machine}
use Rattle.tt_reports.specs.RaceText.{races_text_of}
use Rattle.tt_session.specs.Telling.{AreEntries}
use Rattle.tt_session.specs.declared.status.Status.{Status}
use Rattle.tt_session.specs.declared.status.Status.TheVariants.{Done, ScheduleEnded}
use Rattle.tt_waiting.specs.Report.{IsWaitsReport}
use Rattle.tt_words.specs.Asked.{Asked, Report, NoReport, Waits, Races, Debug, generate, plain, replay}

-- the report of who waits for whom in the machine after the steps
pub record ReportsWaits (setup : Setup) (input schedule more : List ℕ) : Type 0 where
  pub machine : Machine
  pub ran : Runs (start_machine setup input) schedule machine
  pub report : IsWaitsReport more machine

-- the report of the races of the steps
pub record ReportsRaces (setup : Setup) (input schedule more : List ℕ) : Type 0 where
  pub machine : Machine
  pub entries : List Entry
  pub races : AllRaces
  pub are : AreEntries (start_machine setup input) schedule entries machine
  pub found : AreRacesOf entries races
  pub text : more ≡ races_text_of races

-- who waits for whom is reported if the schedule ended before the run
abbrev pub WaitsAfter : Status → Setup → (held : Option (List ℕ)) → (schedule more : List ℕ) → Type 0
WaitsAfter ScheduleEnded setup held schedule more = IfSome held (λ input. ReportsWaits setup input schedule more)
WaitsAfter status setup held schedule more = more ≡ []

-- races are reported if all steps of the schedule were taken
abbrev pub RacesAfter : Status → Setup → (held : Option (List ℕ)) → (schedule more : List ℕ) → Type 0
RacesAfter ScheduleEnded setup held schedule more = IfSome held (λ input. ReportsRaces setup input schedule more)
RacesAfter (Done code) setup held schedule more = IfSome held (λ input. ReportsRaces setup input schedule more)
RacesAfter status setup held schedule more = more ≡ []

-- what is reported of a call that ended so: of the machine it is said if the bytes of standard input are known
abbrev pub IsReport : Report → Status → Setup → (held : Option (List ℕ)) → (schedule more : List ℕ) → Type 0
IsReport NoReport status setup held schedule more = more ≡ []
IsReport Waits status setup held schedule more = WaitsAfter status setup held schedule more
IsReport Races status setup held schedule more = RacesAfter status setup held schedule more
IsReport (Debug file) status setup held schedule more = more ≡ []

-- the report that is asked for
abbrev pub report_of : Asked → Report
report_of (plain named) = NoReport
report_of (replay named) = named.report
report_of (generate named) = NoReport
