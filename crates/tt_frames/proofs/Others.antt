-- Commands that are none of those that the evaluation does itself.
use Rattle.std.proofs.Common.{rules, ◌≡◌, ℕ, List, true, refl}
use Rattle.tt_commands.specs.Calls.{call_of}
use Rattle.tt_control.specs.declared.control.Control.{Control}
use Rattle.tt_control.specs.declared.control.Control.TheVariants as control
use Rattle.tt_frames.specs.Asking.{call_then}
use Rattle.tt_frames.specs.Control.{control_then, is_other}
use Rattle.tt_frames.specs.declared.state.Counts.{Counts}

pub asked :
    (words : List (List ℕ)) (command : Control) (state : Counts) → is_other command ≡ true
    → control_then words command state ≡ call_then (call_of words state.me) words state
asked words control.Other state other = refl
asked words (control.Bad message) state other = search rules
asked words control.Break state other = search rules
asked words control.Continue state other = search rules
asked words (control.Return kept value) state other = search rules
asked words (control.Error message info) state other = search rules
asked words (control.Catch script variable) state other = search rules
asked words (control.Expr text) state other = search rules
asked words (control.If clauses) state other = search rules
asked words (control.While test body) state other = search rules
asked words (control.For start test next body) state other = search rules
asked words (control.Foreach names values body) state other = search rules
asked words (control.Script text) state other = search rules
