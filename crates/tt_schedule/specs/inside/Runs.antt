-- Runs of steps as a schedule stores them: each by the count of steps up to its end.
use Rattle.std.specs.Prelude.{◌≢◌, ℕ, ◌-◌, ◌<◌, ◌≤◌, List, [], ◌∷◌}
use Rattle.tt_schedule.specs.declared.line.Line.{Line}
use Rattle.tt_schedule.specs.declared.run.Run.{Run}
use Rattle.tt_schedule.specs.ScheduleText.{most_steps}
use Rattle.tt_ids.specs.ThreadNumbers.{IsInRange}

-- the lines that runs stand for, after this many steps
abbrev pub lines_from : ℕ → List Run → List Line
lines_from start [] = []
lines_from start (run ∷ runs) = record { thread = run.thread; steps = run.end - start } ∷ lines_from run.end runs

-- how many steps there are up to the end of the runs
abbrev pub end_of : ℕ → List Run → ℕ
end_of start [] = start
end_of start (run ∷ runs) = end_of run.end runs

-- a run of one step or more
pub record IsRun (start : ℕ) (run : Run) : Type 0 where
  pub some : start < run.end
  pub few : run.end ≤ most_steps
  pub thread : IsInRange run.thread

-- the first run, if there is one, is of another thread
abbrev pub FirstDiffers : ℕ → List Run → Type 0
FirstDiffers thread [] = Unit {0}
FirstDiffers thread (run ∷ runs) = thread ≢ run.thread

-- the last run, if there is one, is of another thread
abbrev pub LastDiffers : List Run → ℕ → Type 0
LastDiffers [] thread = Unit {0}
LastDiffers (run ∷ []) thread = run.thread ≢ thread
LastDiffers (run ∷ next ∷ runs) thread = LastDiffers (next ∷ runs) thread

-- runs that follow one another, and no two neighbours of one thread
abbrev pub AreRuns : ℕ → List Run → Type 0
AreRuns start [] = Unit {0}
AreRuns start (run ∷ runs) = IsRun start run × FirstDiffers run.thread runs × AreRuns run.end runs
