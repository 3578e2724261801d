use Rattle.std.proofs.Common.{◌≡◌, ◌<◌, ◌≤◌, drop, length}
use Rattle.tt_script.specs.Plain.{plain_parts}
use Rattle.tt_code.specs.Making as making
use Rattle.tt_code.proofs.words.+part.Given as goal

abbrev pub invariant-push_parts-loop-left : goal.invariant-push_parts-loop-left
invariant-push_parts-loop-left l =
    (0 < l.left) × (l.left ≤ length l.parts) × (l.code ≡ making.later_code (plain_parts (drop l.left l.parts)) l.fn.code)

abbrev pub decreases-push_parts-loop-left : goal.decreases-push_parts-loop-left
decreases-push_parts-loop-left l = l.left
