use Rattle.std.proofs.Common.{◌≡◌, drop}
use Rattle.tt_exprs.specs.Apply.{wholes}
use Rattle.tt_exprs.proofs.Extremes.{with_best}
use Rattle.tt_exprs.proofs.applying.numbers.extreme.Given as goal

abbrev pub invariant-loop-operand : goal.invariant-loop-operand
invariant-loop-operand l =
    with_best l.op l.best (wholes l.op (drop l.operand-index l.later)) ≡ with_best l.op l.initial.best (wholes l.op l.later)
