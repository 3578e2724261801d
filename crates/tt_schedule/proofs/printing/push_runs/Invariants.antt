use Rattle.std.proofs.Common.{◌≡◌, ◌++◌, drop}
use Rattle.std.specs.List.{flat_map}
use Rattle.tt_schedule.specs.inside.Runs.{lines_from, AreRuns}
use Rattle.tt_schedule.specs.ScheduleText.{line_text}
use Rattle.tt_schedule.proofs.printing.push_runs.Given as goal

abbrev pub invariant-loop-run : goal.invariant-loop-run
invariant-loop-run l =
    AreRuns l.start (drop l.run-index l.runs)
    × (l.text ++ flat_map line_text (lines_from l.start (drop l.run-index l.runs)) ≡ l.fn.text ++ flat_map line_text (lines_from 0 l.runs))
