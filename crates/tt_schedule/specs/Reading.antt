-- What a text of a schedule says.
use Rattle.std.specs.Prelude.{ℕ, List}
use Rattle.tt_schedule.specs.declared.reading.ReadSchedule.{ReadSchedule}
use Rattle.tt_schedule.specs.declared.reading.ReadSchedule.TheVariants.{Read, Bad}
use Rattle.tt_schedule.specs.ScheduleText.{IsFirstWrong, IsScheduleText}

-- the schedule whose text it is, or that it is the text of none, and the place of its first wrong line
abbrev pub IsRead : List ℕ → ReadSchedule → Type 0
IsRead text (Read schedule) = IsScheduleText text schedule.threads
IsRead text (Bad fault) = IsFirstWrong text fault.place × ((threads : List ℕ) → ¬ (IsScheduleText text threads))
