-- What code needs after an instruction.
use Rattle.std.specs.Prelude.{ℕ, ◌+◌, ◌<◌, List, ◌∷◌}
use Rattle.tt_code.specs.Code.{Next, needs_from}
use Rattle.tt_code.specs.Making.{Instructions}
use Rattle.tt_code.specs.Needs.{Needs}
use Rattle.tt_code.specs.Running.{halt_needs}
use Rattle.tt_code.specs.declared.steps.Step.{Step}
use Rattle.tt_code.specs.declared.steps.Step.TheVariants as steps

-- what is needed after an instruction
abbrev pub step_needs : Step → Next → List (List ℕ) → Needs
step_needs (steps.Goes count) next vs = next count vs
step_needs (steps.Halts halt) next vs = halt_needs halt (λ v. next 0 (v ∷ vs))

-- what is needed after the instruction at a place, if that says the place to which it goes
abbrev pub turn_needs : Step → Instructions → (place : ℕ) → List (List ℕ) → Needs
turn_needs (steps.Goes next) code place vs = needs_from code next vs
turn_needs (steps.Halts halt) code place vs = halt_needs halt (λ v. needs_from code (place + 1) (v ∷ vs))

-- an instruction goes to no place before the next
abbrev pub IsFurther : Step → (place : ℕ) → Type 0
IsFurther (steps.Goes next) place = place < next
IsFurther (steps.Halts halt) place = Unit {0}
