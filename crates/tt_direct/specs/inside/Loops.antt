-- What comes of the turns of a loop (while(n), for(n)).
use Rattle.std.specs.Prelude.{ℕ, List, Option, Some, None}
use Rattle.std.specs.Arc.{arc_value}
use Rattle.std.specs.Option.{option_map}
use Rattle.tt_frames.specs.Vocabulary.{TclPlan, Then}
use Rattle.tt_frames.specs.declared.job.Loop.{Loop}
use Rattle.tt_frames.specs.declared.job.Loop.TheVariants as loop
use Rattle.tt_kept.specs.declared.kept.Kept.{Kept}
use Rattle.tt_direct.specs.Leading.{Stays, TclStack}
use Rattle.tt_direct.specs.inside.Coming.{CameOn}
use Rattle.tt_direct.specs.declared.loops.Turned.{Turned}
use Rattle.tt_direct.specs.declared.loops.Turned.TheVariants as turned
use Rattle.tt_direct.specs.declared.parts.Parts.{Parts}

-- the loop of these texts
abbrev pub loop_with : (test body : List ℕ) → (next : Option (List ℕ)) → Loop
loop_with test body None = loop.While test body
loop_with test body (Some next) = loop.For test next body

-- the loop of these parts
abbrev pub loop_of : Parts → Loop
loop_of parts = loop_with parts.test (arc_value parts.body) (option_map arc_value parts.next)

-- what comes of a part of a turn: if the loop goes on, that follows
abbrev pub TurnedOn :
    Turned → (go : Then) → TclStack → Kept → (whole : TclPlan) → (before : TclStack) → Kept → Type 0
TurnedOn turned.Goes go stack kept whole before held = Stays (go stack.state) stack kept whole before held
TurnedOn (turned.Stops came) go stack kept whole before held = CameOn came stack kept whole before held
