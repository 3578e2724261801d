-- What a report says of a system that has come to an end.
use Rattle.std.specs.Prelude.{◌≡◌, ℕ, List, [], Option}
use Rattle.tt_before.specs.RaceLists.{AreRacesOf}
use Rattle.tt_before.specs.Steps.{Entry}
use Rattle.tt_before.specs.declared.order.Order.{Order}
use Rattle.tt_before.specs.declared.race.Races.{Races}
use Rattle.tt_before.specs.inside.Told.{IsOrderOf}
use Rattle.tt_core.specs.Stage.{OfMachine, Stage}
use Rattle.tt_reports.specs.RaceText.{races_text_of}
use Rattle.tt_session.specs.declared.ended.Finish.{Finish}
use Rattle.tt_session.specs.declared.status.End.{End}
use Rattle.tt_session.specs.declared.status.End.TheVariants.{Done, ScheduleEnded, NoMemory}
use Rattle.tt_waiting.specs.Report.{IsWaitsReport}

-- memory for the report of a run was refused
abbrev pub without_memory : {S K E : Type 0} → Finish S K E → Finish S K E
without_memory finish = record {
  end = NoMemory;
  schedule = finish.schedule;
  input = finish.input;
  output = finish.output;
  errors = finish.errors;
}

-- the report of who waits for whom, of whatever machine the system stands for
abbrev pub SaysWaits : {S K E : Type 0} → (held : S → Option (List ℕ)) → End → Stage S K E → (more : List ℕ) → Type 0
SaysWaits held ScheduleEnded stage more = OfMachine held stage (IsWaitsReport more)
SaysWaits held end stage more = more ≡ []

-- the races of whatever entries the order is of
pub record SaysRacesOf (order : Order) (more : List ℕ) : Type 0 where
  pub races : Races
  pub found : (entries : List Entry) → IsOrderOf entries order → AreRacesOf entries races
  pub text : more ≡ races_text_of races

-- it is reported if all steps of the schedule were taken
abbrev pub SaysRaces : End → Order → (more : List ℕ) → Type 0
SaysRaces (Done code) order more = SaysRacesOf order more
SaysRaces ScheduleEnded order more = SaysRacesOf order more
SaysRaces end order more = more ≡ []
