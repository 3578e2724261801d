use Rattle.std.proofs.Common.{arith, sym}
use Rattle.std.proofs.lemmas.List.{length-take-le, take_all}
use Rattle.tt_lines.proofs.ahead.Ahead.front.Goals as goal

pub returns-then-unused-le-MOST_SEARCHED : goal.returns-then-unused-le-MOST_SEARCHED
returns-then-unused-le-MOST_SEARCHED c =
    rw c.unused-unused.ensures (sym (take_all 16777217 c.args.self.now (rw c.unused-unused.ensures at c.if-unused-le-MOST_SEARCHED.true)))

pub slice_bounds-result-end : goal.slice_bounds-result-end
slice_bounds-result-end c = sym (length-take-le 16777217 c.unused-unused.result.now (omega (arith, c.if-unused-le-MOST_SEARCHED.false)))
