use Rattle.std.proofs.Common.{arith, length, drop, take, ◌+◌, ◌-◌, ◌≡◌, ◌∙◌, sym, ap, rules, Err, to_z, of_z, w64}
use Rattle.std.proofs.lemmas.Int.{ints, to_z-of_z}
use Rattle.tt_exprs.specs.Apply.{extreme_number, wholes}
use Rattle.tt_exprs.proofs.Extremes.{one_more, one_refused, first_whole, with_best}
use Rattle.tt_exprs.proofs.applying.numbers.extreme.Goals as goal

pub returns-in_err-whole : goal.returns-in_err-whole
returns-in_err-whole c =
    let later = take (length c.args.operands.now - 1) (drop 1 c.args.operands.now) in
    let e = one_refused c.args.op later c.loop-operand.operand-index (to_z w64 c.loop-operand.best-bits) c.in_err-whole.field-0.0 c.operand-item.result
    (omega arith) c.operand-item.is (sym c.whole-in-loop-operand.ensures ∙ c.in_err-whole.was) in
    let f = first_whole c.args.op c.args.operands.now c.first-item.result c.in_ok-best.best (omega arith) c.first-item.is
    (sym c.whole.ensures ∙ c.in_ok-best.was) in
    let p : to_z w64 (of_z w64 c.in_ok-best.best) ≡ c.in_ok-best.best = search (arith, ints, to_z-of_z) in
    let i : with_best c.args.op (to_z w64 c.loop-operand.best-bits) (wholes c.args.op (drop c.loop-operand.operand-index later)) ≡ with_best c.args.op
    (to_z w64 (of_z w64 c.in_ok-best.best)) (wholes c.args.op later) = c.loop-operand.invariant in
    let r : c.from_residual-in_err-whole.result ≡ Err c.in_err-whole.field-0.0 = search rules in
    r ∙ sym (f ∙ (ap (λ b. with_best c.args.op b (wholes c.args.op later)) (sym p) ∙ (sym i ∙ e)))

pub loop-operand-preserved : goal.loop-operand-preserved
loop-operand-preserved c =
    let later = take (length c.args.operands.now - 1) (drop 1 c.args.operands.now) in
    let e = one_more c.args.op later c.loop-operand.operand-index (to_z w64 c.loop-operand.best-bits) c.in_ok-whole.field-0 c.operand-item.result
    (omega arith) c.operand-item.is (sym c.whole-in-loop-operand.ensures ∙ c.in_ok-whole.was) in
    let p : to_z w64 (of_z w64 c.picked-best.result) ≡ c.picked-best.result = search (arith, ints, to_z-of_z) in
    let q : c.picked-best.result ≡ extreme_number c.args.op (to_z w64 c.loop-operand.best-bits) c.in_ok-whole.field-0 = search rules in
    let i : with_best c.args.op (to_z w64 c.loop-operand.best-bits) (wholes c.args.op (drop c.loop-operand.operand-index later)) ≡ with_best c.args.op
    (to_z w64 (of_z w64 c.in_ok-best.best)) (wholes c.args.op later) = c.loop-operand.invariant in
    ap (λ b. with_best c.args.op b (wholes c.args.op (drop (c.loop-operand.operand-index + 1) later))) (p ∙ q) ∙ (sym e ∙ i)
