use Rattle.std.proofs.Common.{◌≡◌, ◌≢◌, ◌∷◌, ◌-◌, true, false, length, rules}
use Rattle.tt_exprs.specs.Plain.{plain_expr}
use Rattle.tt_code.specs.Making.{expression_code, values_code}
use Rattle.tt_code.specs.Needs.{bit}
use Rattle.tt_code.specs.declared.code.Instruction.TheVariants as code
use Rattle.tt_code.proofs.Operands.{both_made, eager_made, either_made, not_either, not_three, not_two, one_of_made, row, three, two}
use Rattle.tt_code.proofs.expressions.+expression.Goals as goal

pub push_both-returns-then-operands-ne2 : goal.push_both-returns-then-operands-ne2
push_both-returns-then-operands-ne2 t c =
    let other : length c.args.operands.now ≢ 2 = search rules in
    rw (not_two c.args.operands.now c.args.code.now other) (search rules)

pub push_both-returns : goal.push_both-returns
push_both-returns t c =
    let first = c.index-operands-0.result in
    let second = c.index-operands-1.result in
    let counted : length c.args.operands.now ≡ 2 = search rules in
    let end : c.push-2.new.self ≡ code.Push (bit false) ∷ c.args.code.now = search rules in
    let skipped : c.saturating_sub.result ≡ length c.push_truth.new.code - length c.push-2.new.self = search rules in
    let whole : c.push_expression.new.code ≡ expression_code (plain_expr first)
    (code.SkipIfFalse c.saturating_sub.result ∷ c.push_truth.new.code) = search rules in
    both_made c.args.operands.now first second c.args.code.now c.push-2.new.self c.push_truth.new.code c.push_expression.new.code c.saturating_sub.result
    (two c.args.operands.now first second counted c.index-operands-0.is c.index-operands-1.is)
    end (search rules) skipped whole

pub push_either-returns-then-operands-ne2 : goal.push_either-returns-then-operands-ne2
push_either-returns-then-operands-ne2 t c =
    let other : length c.args.operands.now ≢ 2 = search rules in
    rw (not_either c.args.operands.now c.args.code.now other) (search rules)

pub push_either-returns : goal.push_either-returns
push_either-returns t c =
    let first = c.index-operands-0.result in
    let second = c.index-operands-1.result in
    let counted : length c.args.operands.now ≡ 2 = search rules in
    let end : c.push-2.new.self ≡ code.Push (bit true) ∷ c.args.code.now = search rules in
    let skipped : c.saturating_sub.result ≡ length c.push_truth.new.code - length c.push-2.new.self = search rules in
    let whole : c.push_expression.new.code ≡ expression_code (plain_expr first)
    (code.SkipIfTrue c.saturating_sub.result ∷ c.push_truth.new.code) = search rules in
    either_made c.args.operands.now first second c.args.code.now c.push-2.new.self c.push_truth.new.code c.push_expression.new.code c.saturating_sub.result
    (two c.args.operands.now first second counted c.index-operands-0.is c.index-operands-1.is)
    end (search rules) skipped whole

pub push_one_of-returns-then-operands-ne3 : goal.push_one_of-returns-then-operands-ne3
push_one_of-returns-then-operands-ne3 t c =
    let other : length c.args.operands.now ≢ 3 = search rules in
    rw (not_three c.args.operands.now c.args.code.now other) (search rules)

pub push_one_of-returns : goal.push_one_of-returns
push_one_of-returns t c =
    let first = c.index-operands-0.result in
    let second = c.index-operands-1.result in
    let third = c.index-operands-2.result in
    let counted : length c.args.operands.now ≡ 3 = search rules in
    let jumped : c.saturating_sub.result ≡ length c.push_expression.new.code - length c.args.code.now = search rules in
    let chosen : c.push_expression-2.new.code ≡ expression_code (plain_expr second)
    (code.Skip c.saturating_sub.result ∷ c.push_expression.new.code) = search rules in
    let skipped : c.saturating_sub-2.result ≡ length c.push_expression-2.new.code - length c.push_expression.new.code = search rules in
    let whole : c.push_expression-3.new.code ≡ expression_code (plain_expr first)
    (code.SkipIfFalse c.saturating_sub-2.result ∷ c.push_expression-2.new.code) = search rules in
    one_of_made c.args.operands.now first second third c.args.code.now c.push_expression.new.code c.push_expression-2.new.code c.push_expression-3.new.code c.saturating_sub.result c.saturating_sub-2.result
    (three c.args.operands.now first second third counted c.index-operands-0.is c.index-operands-1.is c.index-operands-2.is)
    (search rules) jumped chosen skipped whole

pub push_operator-returns-in_ok-push_values-in-Eager : goal.push_operator-returns-in_ok-push_values-in-Eager
push_operator-returns-in_ok-push_values-in-Eager t c =
    let made : c.push_values.new.code ≡ values_code (row c.args.operands.now)
    (code.Apply c.args.op (length c.args.operands.now) ∷ c.args.code.now) = search rules in
    rw c.in-Eager.is (eager_made c.args.op c.args.operands.now c.args.code.now c.push_values.new.code made)
