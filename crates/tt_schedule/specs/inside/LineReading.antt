-- What the lines after the heading say.
use Rattle.std.specs.Prelude.{◌≡◌, ◌≢◌, ℕ, ◌≤◌, List, [], ◌++◌, length}
use Rattle.std.specs.List.{flat_map}
use Rattle.tt_schedule.specs.declared.line.Line.{Line}
use Rattle.tt_schedule.specs.declared.reading.ReadLines.{ReadLines}
use Rattle.tt_schedule.specs.declared.reading.ReadLines.TheVariants.{Good, Wrong}
use Rattle.tt_schedule.specs.ScheduleText.{AreLines, NoneFollows, line_text}
use Rattle.tt_schedule.specs.inside.Runs.{lines_from, AreRuns}

-- lines of a schedule are before the remaining bytes, and none that may follow them is next
pub record StopsBefore (text : List ℕ) (left : ℕ) : Type 0 where
  pub lines : List Line
  pub rest : List ℕ
  pub are_lines : AreLines lines
  pub cut : text ≡ flat_map line_text lines ++ rest
  pub left_is : left ≡ length rest
  pub some : rest ≢ []
  pub wrong : NoneFollows lines rest

-- what the lines say: the runs that they stand for, or that they are no lines of a schedule
abbrev pub ReadsLines : List ℕ → ReadLines → Type 0
ReadsLines text (Good runs) = AreRuns 0 runs.items × (text ≡ flat_map line_text (lines_from 0 runs.items))
ReadsLines text (Wrong left) =
    (left ≤ length text)
    × StopsBefore text left
    × ((lines : List Line) → AreLines lines → text ≢ flat_map line_text lines)
