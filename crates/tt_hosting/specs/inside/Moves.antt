-- What comes of a move of a stack with a host.
use Rattle.std.specs.Prelude.{◌≡◌}
use Rattle.tt_evaluation.specs.Evaluation.{Meaning}
use Rattle.tt_evaluation.specs.Frames.{After, OnGot, is_waiting, plan_of}
use Rattle.tt_evaluation.specs.declared.stack.Stack.{Stack}
use Rattle.tt_hosting.specs.Hosting.{Coming, Leading, asks, from_reached, on_stack}
use Rattle.tt_hosting.specs.declared.driving.Moved.{Moved}
use Rattle.tt_hosting.specs.declared.driving.Moved.TheVariants.{Moves, Reaches}

-- another move leads on, or what is reached does, and the stack waits if it asks
abbrev pub MovesTo :
    {Job Want Got Outcome State Frame Asking Host Request : Type 0} → Meaning Job Want Got Outcome State
    → After Job Want Got Outcome State Frame → OnGot Job Want Got Outcome State Asking → (Request → Want)
    → Leading Want Got Outcome State Host → Moved Job Want Outcome Frame Asking Request → Stack State Frame Asking
    → (new : Host) → (before : Coming Want Got Outcome State) → (old : Host) → Type 0
MovesTo plan after on_got wanted leads (Moves move) stack new before old =
    leads (on_stack plan after (plan_of after on_got move) stack) new before old
MovesTo plan after on_got wanted leads (Reaches reached) stack new before old =
    leads (from_reached plan after on_got wanted reached stack) new before old × (asks reached ≡ is_waiting stack)
