use Rattle.std.proofs.Common.{◌≡◌, ◌≤◌, drop, length, map}
use Rattle.tt_exprs.specs.Parsing.{in_a_row}
use Rattle.tt_exprs.specs.Plain.{plain_expr}
use Rattle.tt_code.specs.Making as making
use Rattle.tt_code.proofs.expressions.+expression.Given as goal

abbrev pub invariant-push_values-loop-left : goal.invariant-push_values-loop-left
invariant-push_values-loop-left l =
    (l.left ≤ length l.operands)
    × (l.code ≡ making.values_code (in_a_row (map plain_expr (drop l.left l.operands))) l.fn.code)

abbrev pub decreases-push_values-loop-left : goal.decreases-push_values-loop-left
decreases-push_values-loop-left l = l.left
