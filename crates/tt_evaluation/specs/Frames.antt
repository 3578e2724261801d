-- Frames: what an interpreter keeps of the plans that are begun. A frame means what comes after an outcome, and an
-- asking what comes after an answer.
use Rattle.std.specs.Prelude.{ℕ, Bool, true, false, List, [], ◌∷◌, ◌++◌, Option, Some, None}
use Rattle.std.specs.Prelude.{is_some}
use Rattle.tt_evaluation.specs.Plans.{Plan, Ends, Asks, Calls, Goes, Course, Stop, Fin, Spent, Evaluation, then_do}
use Rattle.tt_evaluation.specs.Plans.{posts_of, course_with_post, follow}
use Rattle.tt_evaluation.specs.Evaluation.{Meaning, eval}
use Rattle.tt_evaluation.specs.declared.language.Move.{Move}
use Rattle.tt_evaluation.specs.declared.language.Move.TheVariants.{Done, Ask, Call, Goto}
use Rattle.tt_evaluation.specs.declared.stack.Pending.{Pending}
use Rattle.tt_evaluation.specs.declared.stack.Halt.{Halt}
use Rattle.tt_evaluation.specs.declared.stack.Halt.TheVariants.{Wants, Ended}
use Rattle.tt_evaluation.specs.declared.stack.Stack.{Stack}

-- what a frame means
abbrev pub After : (Job Want Got Outcome State Frame : Type 0) → Type 0
After Job Want Got Outcome State Frame = Frame → Outcome → State → Plan Job Want Got Outcome State

-- what an asking means
abbrev pub OnGot : (Job Want Got Outcome State Asking : Type 0) → Type 0
OnGot Job Want Got Outcome State Asking = Asking → Got → State → Plan Job Want Got Outcome State

-- the plan that a move begins
abbrev pub plan_of :
    {Job Want Got Outcome State Frame Asking : Type 0} → After Job Want Got Outcome State Frame
    → OnGot Job Want Got Outcome State Asking → Move Job Want Outcome Frame Asking → State
    → Plan Job Want Got Outcome State
plan_of after on_got (Done outcome) state = Ends outcome state
plan_of after on_got (Ask want asking) state = Asks want state (on_got asking)
plan_of after on_got (Call serves job frame) state = Calls serves job state (after frame)
plan_of after on_got (Goto job) state = Goes job state

-- a course within a call: the frame goes on with its outcome
abbrev pub within :
    {Job Want Got Outcome State Frame : Type 0} → Evaluation Job Want Got Outcome State
    → After Job Want Got Outcome State Frame → Pending Frame → Course Want Got Outcome State
    → Course Want Got Outcome State
within evaluate after call course =
    then_do (course_with_post call.serves course) (λ o st k rest. follow evaluate (after call.frame o st) k rest)

-- a course within all the calls of a stack, the newest of which is the last
abbrev pub finish :
    {Job Want Got Outcome State Frame : Type 0} → Evaluation Job Want Got Outcome State
    → After Job Want Got Outcome State Frame → List (Pending Frame) → Course Want Got Outcome State
    → Course Want Got Outcome State
finish evaluate after [] course = course
finish evaluate after (call ∷ calls) course = within evaluate after call (finish evaluate after calls course)

-- the posts that the calls of a stack serve, innermost first
abbrev pub serving_of : {Frame : Type 0} → List (Pending Frame) → List ℕ
serving_of [] = []
serving_of (call ∷ calls) = serving_of calls ++ posts_of call.serves

-- the posts that a stack serves, innermost first
abbrev pub serving : {State Frame Asking : Type 0} → Stack State Frame Asking → List ℕ
serving stack = serving_of stack.calls.items

-- the course of what waits for an answer, after this one and more
abbrev pub with_answer :
    {Job Want Got Outcome State Frame Asking : Type 0} → Meaning Job Want Got Outcome State
    → After Job Want Got Outcome State Frame → OnGot Job Want Got Outcome State Asking → Option Asking
    → List (Pending Frame) → State → ℕ → Got → List Got → Course Want Got Outcome State
with_answer plan after on_got None calls state n got answers = Spent
with_answer plan after on_got (Some asking) calls state n got answers =
    finish (eval plan) after calls (follow (eval plan) (on_got asking got state) n answers)

-- the course of a stack that waits, after this answer and more
abbrev pub after_answer :
    {Job Want Got Outcome State Frame Asking : Type 0} → Meaning Job Want Got Outcome State
    → After Job Want Got Outcome State Frame → OnGot Job Want Got Outcome State Asking → Stack State Frame Asking
    → Got → List Got → Course Want Got Outcome State
after_answer plan after on_got stack got answers =
    with_answer plan after on_got stack.asking stack.calls.items stack.state stack.steps got answers

-- the course of a stack that halts there, after further answers: if there are none it stops at what it wants
abbrev pub from_halt :
    {Job Want Got Outcome State Frame Asking : Type 0} → Meaning Job Want Got Outcome State
    → After Job Want Got Outcome State Frame → OnGot Job Want Got Outcome State Asking → Halt Want Outcome
    → Stack State Frame Asking → List Got → Course Want Got Outcome State
from_halt plan after on_got (Wants want) stack [] = Stop want (serving stack)
from_halt plan after on_got (Wants want) stack (got ∷ answers) = after_answer plan after on_got stack got answers
from_halt plan after on_got (Ended outcome) stack answers = Fin outcome stack.state stack.steps answers

-- a stack waits for an answer
abbrev pub is_waiting : {State Frame Asking : Type 0} → Stack State Frame Asking → Bool
is_waiting stack = is_some stack.asking

-- a halt at which something is wanted
abbrev pub wants : {Want Outcome : Type 0} → Halt Want Outcome → Bool
wants (Wants want) = true
wants (Ended outcome) = false
