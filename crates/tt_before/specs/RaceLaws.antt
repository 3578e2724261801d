-- What holds of the races of a run.
use Rattle.std.specs.Prelude.{◌≡◌, List}
use Rattle.tt_before.specs.RaceLists.{AreAllRaces}
use Rattle.tt_before.specs.Steps.{Entry}
use Rattle.tt_before.specs.declared.race.Race.{Race}

-- there is one list of all races
abbrev pub OneListLaw : Type 0
OneListLaw =
    (entries : List Entry) (one other : List Race) →
    AreAllRaces entries one →
    AreAllRaces entries other →
    one ≡ other
