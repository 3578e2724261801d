-- The course of a stack between two halts, and why moves come to an end.
use Rattle.std.specs.Prelude.{ℕ, ◌+◌, ◌*◌, ◌<◌, List, length}
use Rattle.std.specs.Prelude.{⊤}
use Rattle.tt_evaluation.specs.Plans.{Asks, Course, Fin}
use Rattle.tt_evaluation.specs.Plans.{follow}
use Rattle.tt_evaluation.specs.Evaluation.{Meaning, eval}
use Rattle.tt_evaluation.specs.declared.language.Move.{Move}
use Rattle.tt_evaluation.specs.declared.language.Move.TheVariants.{Done, Ask, Call, Goto}
use Rattle.tt_evaluation.specs.declared.stack.Pending.{Pending}
use Rattle.tt_evaluation.specs.declared.stack.Standing.{Standing}
use Rattle.tt_evaluation.specs.declared.stack.Standing.TheVariants as standing
use Rattle.tt_evaluation.specs.declared.stack.Next.{Next}
use Rattle.tt_evaluation.specs.declared.stack.Next.TheVariants.{Moves, Stands}
use Rattle.tt_evaluation.specs.Frames.{After, OnGot, finish, plan_of}

-- the course from where moves come to
abbrev pub from_standing :
    {Job Want Got Outcome State Frame Asking : Type 0} → Meaning Job Want Got Outcome State
    → After Job Want Got Outcome State Frame → OnGot Job Want Got Outcome State Asking
    → Standing Want Outcome Asking → List (Pending Frame) → State → ℕ → List Got → Course Want Got Outcome State
from_standing plan after on_got (standing.Asks want asking) calls state n answers =
    finish (eval plan) after calls (follow (eval plan) (Asks want state (on_got asking)) n answers)
from_standing plan after on_got (standing.Ends outcome) calls state n answers = Fin outcome state n answers

-- the course from a move on
abbrev pub from_move :
    {Job Want Got Outcome State Frame Asking : Type 0} → Meaning Job Want Got Outcome State
    → After Job Want Got Outcome State Frame → OnGot Job Want Got Outcome State Asking
    → Move Job Want Outcome Frame Asking → List (Pending Frame) → State → ℕ → List Got
    → Course Want Got Outcome State
from_move plan after on_got move calls state n answers =
    finish (eval plan) after calls (follow (eval plan) (plan_of after on_got move state) n answers)

-- the course from what comes next
abbrev pub from_next :
    {Job Want Got Outcome State Frame Asking : Type 0} → Meaning Job Want Got Outcome State
    → After Job Want Got Outcome State Frame → OnGot Job Want Got Outcome State Asking
    → Next Job Want Outcome Frame Asking → List (Pending Frame) → State → ℕ → List Got
    → Course Want Got Outcome State
from_next plan after on_got (Moves move) calls state n answers = from_move plan after on_got move calls state n answers
from_next plan after on_got (Stands standing) calls state n answers =
    from_standing plan after on_got standing calls state n answers

-- what falls with each move
abbrev pub move_weight : {Job Want Outcome Frame Asking : Type 0} → Move Job Want Outcome Frame Asking → ℕ
move_weight (Done outcome) = 0
move_weight (Ask want asking) = 1
move_weight (Call serves job frame) = 1
move_weight (Goto job) = 1

-- what falls with each move: three for each step, two for each call, and what the move weighs
abbrev pub weight :
    {Job Want Outcome Frame Asking : Type 0} → Move Job Want Outcome Frame Asking → List (Pending Frame) → ℕ → ℕ
weight move calls n = 3 * n + 2 * length calls + move_weight move

-- it has fallen below what it was before
abbrev pub Falls :
    {Job Want Outcome Frame Asking : Type 0} → Next Job Want Outcome Frame Asking → List (Pending Frame) → ℕ
    → (before : ℕ) → Type 0
Falls (Moves move) calls n before = weight move calls n < before
Falls (Stands standing) calls n before = ⊤
