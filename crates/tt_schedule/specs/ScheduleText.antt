-- The text of a schedule: the line `schedule 1`, and then a line for each row of steps that one thread takes.
use Rattle.std.specs.Prelude.{◌≡◌, ◌≢◌, ◌⊎◌, ℕ, ◌+◌, ◌≤◌, List, [], ◌∷◌, ◌++◌, length, codes}
use Rattle.std.specs.List.{flat_map, AllByRecursion}
use Rattle.std.specs.Fmt.{decimal}
use lib.ListN.{replicate}
use Rattle.tt_ids.specs.ThreadNumbers.{IsInRange}
use Rattle.tt_schedule.specs.declared.line.Line.{Line}

-- the most steps of a schedule
abbrev pub most_steps : ℕ
most_steps = 16777216

-- The number of the thread is one that threads have, and that of its steps is in the same range.
pub record IsLine (line : Line) : Type 0 where
  pub thread : IsInRange line.thread
  pub steps : IsInRange line.steps

-- neighbouring lines are of different threads
abbrev pub NeighboursDiffer : List Line → Type 0
NeighboursDiffer [] = Unit {0}
NeighboursDiffer (line ∷ []) = Unit {0}
NeighboursDiffer (line ∷ next ∷ lines) = (line.thread ≢ next.thread) × NeighboursDiffer (next ∷ lines)

-- the thread of each step, in order
abbrev pub steps_of : List Line → List ℕ
steps_of lines = flat_map (λ line. replicate line.steps line.thread) lines

-- the lines that a schedule may have
pub record AreLines (lines : List Line) : Type 0 where
  pub each : AllByRecursion IsLine lines
  pub differ : NeighboursDiffer lines
  pub few : length (steps_of lines) ≤ most_steps

-- the thread and the steps in decimal, without leading zeros, parted by a space and ended by a newline
abbrev pub line_text : Line → List ℕ
line_text line = decimal line.thread ++ (32 ∷ (decimal line.steps ++ (10 ∷ [])))

-- the first line
abbrev pub heading : List ℕ
heading = codes "schedule 1\n"

-- the text is the one of this list of thread numbers
pub record IsScheduleText (text threads : List ℕ) : Type 0 where
  pub lines : List Line
  pub are_lines : AreLines lines
  pub spelled : text ≡ heading ++ flat_map line_text lines
  pub steps : threads ≡ steps_of lines

-- no line that may follow these lines is at the front of the text
abbrev pub NoneFollows : List Line → List ℕ → Type 0
NoneFollows lines text = (line : Line) (rest : List ℕ) → AreLines (lines ++ line ∷ []) → text ≢ line_text line ++ rest

-- a wrong line begins at this place: lines of a schedule are before it, and none that may follow them is next
pub record IsWrongLine (text : List ℕ) (place : ℕ) : Type 0 where
  pub lines : List Line
  pub rest : List ℕ
  pub are_lines : AreLines lines
  pub cut : text ≡ heading ++ (flat_map line_text lines ++ rest)
  pub place_is : place + length rest ≡ length text
  pub some : rest ≢ []
  pub wrong : NoneFollows lines rest

-- the offset of a text's first wrong line: 0 if the heading is not there
abbrev pub IsFirstWrong : List ℕ → ℕ → Type 0
IsFirstWrong text place = ((place ≡ 0) × ((rest : List ℕ) → text ≢ heading ++ rest)) ⊎ IsWrongLine text place

-- a text has one first wrong line at most
abbrev pub OnePlaceLaw : Type 0
OnePlaceLaw = (text : List ℕ) (place other : ℕ) → IsFirstWrong text place → IsFirstWrong text other → place ≡ other

-- a text is that of one list of thread numbers at most
abbrev pub OneListLaw : Type 0
OneListLaw =
    (text threads others : List ℕ) → IsScheduleText text threads → IsScheduleText text others → threads ≡ others

-- and such a list has one text
abbrev pub OneTextLaw : Type 0
OneTextLaw = (text other threads : List ℕ) → IsScheduleText text threads → IsScheduleText other threads → text ≡ other
