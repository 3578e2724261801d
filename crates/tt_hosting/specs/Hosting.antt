-- Hosting: a host answers what an evaluation wants, and what it can't answer is asked outside.
use Rattle.std.specs.Prelude.{ℕ, ◌≡◌, Bool, true, false, List, [], ◌∷◌}
use Rattle.tt_evaluation.specs.Evaluation.{Meaning, eval}
use Rattle.tt_evaluation.specs.Frames.{After, OnGot, finish, from_halt}
use Rattle.tt_evaluation.specs.Plans.{Course, Plan, Stop, follow}
use Rattle.tt_evaluation.specs.declared.stack.Halt.{Halt}
use Rattle.tt_evaluation.specs.declared.stack.Halt.TheVariants.{Wants, Ended}
use Rattle.tt_evaluation.specs.declared.stack.Stack.{Stack}
use Rattle.tt_hosting.specs.declared.hosted.Answered.{Answered}
use Rattle.tt_hosting.specs.declared.hosted.Answered.TheVariants as answered
use Rattle.tt_hosting.specs.declared.driving.Reached.{Reached}
use Rattle.tt_hosting.specs.declared.driving.Reached.TheVariants as reached

-- what an evaluation comes to after further answers to what it wants
abbrev pub Coming : (Want Got Outcome State : Type 0) → Type 0
Coming Want Got Outcome State = List Got → Course Want Got Outcome State

-- What leads where: what is asked outside from what an evaluation comes to later, is asked from what it came to
-- before. Beside each stands its host.
abbrev pub Leading : (Want Got Outcome State Host : Type 0) → Type 1
Leading Want Got Outcome State Host =
    (later : Coming Want Got Outcome State) → (new : Host) →
    (before : Coming Want Got Outcome State) → (old : Host) → Type 0

-- what an evaluation comes to once it got this
abbrev pub having :
    {Want Got Outcome State : Type 0} → Got → Coming Want Got Outcome State → Coming Want Got Outcome State
having got coming answers = coming (got ∷ answers)

-- a host answers a want: an evaluation that stops at it goes on with what it got; or it must be asked outside
abbrev pub IsAnswered :
    {Want Got Outcome State Host Request : Type 0} → (Request → Want) → Leading Want Got Outcome State Host
    → Answered Got Request → Want → (new old : Host) → Type 0
IsAnswered {Want} {Got} {Outcome} {State} wanted leads (answered.Got got) want new old =
    (coming : Coming Want Got Outcome State) (serving : List ℕ)
    → coming [] ≡ Stop want serving
    → leads (having got coming) new coming old
IsAnswered wanted leads (answered.Outside request) want new old = (want ≡ wanted request) × (new ≡ old)

-- what a plan comes to that is followed within the calls of a stack
abbrev pub on_stack :
    {Job Want Got Outcome State Frame Asking : Type 0} → Meaning Job Want Got Outcome State
    → After Job Want Got Outcome State Frame → (State → Plan Job Want Got Outcome State) → Stack State Frame Asking
    → Coming Want Got Outcome State
on_stack plan after go stack answers =
    finish (eval plan) after stack.calls.items (follow (eval plan) (go stack.state) stack.steps answers)

-- what was reached, as the halt of its stack
abbrev pub halt_of : {Want Outcome Request : Type 0} → (Request → Want) → Reached Request Outcome → Halt Want Outcome
halt_of wanted (reached.Asks request) = Wants (wanted request)
halt_of wanted (reached.Over outcome) = Ended outcome

-- what a stack comes to from where it was reached
abbrev pub from_reached :
    {Job Want Got Outcome State Frame Asking Request : Type 0} → Meaning Job Want Got Outcome State
    → After Job Want Got Outcome State Frame → OnGot Job Want Got Outcome State Asking → (Request → Want)
    → Reached Request Outcome → Stack State Frame Asking → Coming Want Got Outcome State
from_reached plan after on_got wanted reached stack answers =
    from_halt plan after on_got (halt_of wanted reached) stack answers

-- something must be asked
abbrev pub asks : {Outcome Request : Type 0} → Reached Request Outcome → Bool
asks (reached.Asks request) = true
asks (reached.Over outcome) = false
