use Rattle.std.proofs.Common.{rules, ◌≡◌, pos, arith, get_or, ap, sym, ◌∙◌, to_z, of_z, w64}
use Rattle.std.proofs.lemmas.Int.{ints, to_z-of_z}
use Rattle.std.proofs.lemmas.List.Sums.{fold_more}
use Rattle.tt_exprs.specs.Apply.{extreme_number}
use Rattle.tt_exprs.proofs.applying.on_numbers.extreme.Goals as goal

pub loop-number-preserved : goal.loop-number-preserved
loop-number-preserved c =
    let op = c.args.op in
    let i = c.loop-number.number-index in
    let p : to_z w64 (of_z w64 c.picked-best.result) ≡ c.picked-best.result = search (arith, ints, to_z-of_z) in
    let q : c.picked-best.result ≡ extreme_number op (to_z w64 c.loop-number.best-bits) (get_or c.args.later.now i (pos 0)) = search rules in
    p ∙ q ∙ ap (λ b. extreme_number op b (get_or c.args.later.now i (pos 0))) c.loop-number.invariant
    ∙ sym (fold_more (extreme_number op) (to_z w64 (of_z w64 c.args.first)) c.args.later.now i (pos 0) c.loop-number-test.true)
