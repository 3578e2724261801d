use Rattle.std.proofs.Common.{◌≡◌, fold, take}
use Rattle.tt_exprs.specs.Apply.{extreme_number}
use Rattle.tt_exprs.proofs.applying.on_numbers.extreme.Given as goal

abbrev pub invariant-loop-number : goal.invariant-loop-number
invariant-loop-number l = l.best ≡ fold (extreme_number l.op) l.first (take l.number-index l.later)
