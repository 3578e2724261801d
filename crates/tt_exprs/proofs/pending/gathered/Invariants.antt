use Rattle.std.proofs.Common.{◌≡◌, length}
use Rattle.tt_exprs.specs.Parsing.{gathered}
use Rattle.tt_exprs.specs.inside.Stacks.{plain_stack, plain_value}
use Rattle.tt_exprs.proofs.pending.gathered.Given as goal

abbrev pub invariant-loop-last : goal.invariant-loop-last
invariant-loop-last l =
    gathered l.bound (plain_stack l.pending.items) (plain_value l.value) ≡ gathered l.bound (plain_stack l.fn.pending.items) (plain_value l.fn.value)

abbrev pub decreases-loop-last : goal.decreases-loop-last
decreases-loop-last l = length l.pending.items
