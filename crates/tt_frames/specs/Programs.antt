-- Scripts as the commands that stand in them (Tcl(n), rules 1 and 2).
use Rattle.std.specs.Prelude.{ℕ, zero, suc, ◌+◌, List, [], ◌∷◌, ◌++◌, drop, length, map, Option, Some, None}
use Rattle.std.specs.Arc.{arc_value}
use Rattle.tt_code.specs.Code.{needs_of}
use Rattle.tt_code.specs.Needs.{Needs}
use Rattle.tt_code.specs.Substitution.{words_needs}
use Rattle.tt_script.specs.Reading.{first, first_after}
use Rattle.tt_script.specs.Words.{PlainCommand, PlainFirst, nothing, bad, command}
use Rattle.tt_script.specs.declared.command.ParseFault.{ParseFault}
use Rattle.tt_frames.specs.declared.program.Step.{Step}
use Rattle.tt_frames.specs.declared.program.Step.TheVariants as code

-- a command of a script: one that can't be read, at its first byte; or what its words need, with the places of its
-- first byte and after its last word
pub data PlainStep : Type 0 where
  Wrong : ParseFault → (start : ℕ) → PlainStep
  Does : Needs → (start end : ℕ) → PlainStep

-- a command that is read
abbrev pub does : PlainCommand → PlainStep
does c = Does (words_needs c.words) c.start c.text_end

-- the commands that are read, and where the next one begins, if there may be one
pub record Read : Type 0 where
  pub steps : List PlainStep
  pub next : Option ℕ

-- with what a text begins with, from where reading has come to; after a command that can't be read nothing is read
abbrev pub with_first : List PlainStep → PlainFirst → Read
with_first steps nothing = record { steps = steps; next = None }
with_first steps (bad fault start) = record { steps = steps ++ Wrong fault start ∷ []; next = None }
with_first steps (command c) =
    record { steps = steps ++ does c ∷ []; next = Some c.next }

abbrev pub program_from : (text : List ℕ) → List PlainStep → Option ℕ → Read
program_from text steps None = record { steps = steps; next = None }
program_from text steps (Some from) = with_first steps (first_after from (first (drop from text)))

-- the first so many commands of a script
abbrev pub program_of : (text : List ℕ) → (count : ℕ) → Read
program_of text zero = record { steps = []; next = Some 0 }
program_of text (suc count) = program_from text (program_of text count).steps (program_of text count).next

-- the commands of a script, which are no more than its bytes
unfoldable pub steps_of : (text : List ℕ) → List PlainStep
steps_of text = (program_of text (length text + 1)).steps

-- ---- the code of a script ----

abbrev pub plain_step : Step → PlainStep
plain_step (code.Wrong fault start) = Wrong fault start
plain_step (code.Does words start end) = Does (needs_of (arc_value words)) start end

abbrev pub plain_steps : List Step → List PlainStep
plain_steps steps = map plain_step steps

-- a first one before others; without one there are none
abbrev pub from_front : {A : Type 0} → Option A → List A → List A
from_front None rest = []
from_front (Some first) rest = first ∷ rest

-- where the first command begins and ends
abbrev pub start_of : List PlainStep → ℕ
start_of [] = 0
start_of (Wrong fault start ∷ steps) = start
start_of (Does words start end ∷ steps) = start

abbrev pub end_of : List PlainStep → ℕ
end_of [] = 0
end_of (Wrong fault start ∷ steps) = start
end_of (Does words start end ∷ steps) = end
