-- Machines: what a stack comes to from where it halted.
use Rattle.std.specs.Prelude.{ℕ, Bool, not, ◌&&◌, List}
use Rattle.tt_evaluation.specs.Plans.{Course, Fin}
use Rattle.tt_evaluation.specs.Evaluation.{Meaning}
use Rattle.tt_evaluation.specs.Frames as frames
use Rattle.tt_evaluation.specs.Frames.{After, OnGot, from_halt, is_waiting, wants}
use Rattle.tt_evaluation.specs.declared.machine.Machine.{Machine}

-- what a machine comes to after further answers
abbrev pub later :
    {Job Want Got Outcome State Frame Asking : Type 0} → Meaning Job Want Got Outcome State
    → After Job Want Got Outcome State Frame → OnGot Job Want Got Outcome State Asking
    → Machine Want Outcome State Frame Asking → List Got → Course Want Got Outcome State
later plan after on_got machine answers = from_halt plan after on_got machine.halt machine.stack answers

-- the posts that a machine serves, innermost first
abbrev pub serving : {Want Outcome State Frame Asking : Type 0} → Machine Want Outcome State Frame Asking → List ℕ
serving machine = frames.serving machine.stack

-- a machine waits for an answer
abbrev pub waits : {Want Outcome State Frame Asking : Type 0} → Machine Want Outcome State Frame Asking → Bool
waits machine = is_waiting machine.stack && wants machine.halt

-- what a machine comes to that is at its end, with this outcome
abbrev pub end_of_machine :
    {Want Got Outcome State Frame Asking : Type 0} → Machine Want Outcome State Frame Asking → Outcome → List Got
    → Course Want Got Outcome State
end_of_machine machine outcome answers = Fin outcome machine.stack.state machine.stack.steps answers

-- a machine is at its end
abbrev pub has_ended : {Want Outcome State Frame Asking : Type 0} → Machine Want Outcome State Frame Asking → Bool
has_ended machine = not (wants machine.halt)
