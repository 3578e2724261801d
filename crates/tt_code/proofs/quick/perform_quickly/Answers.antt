use Rattle.std.proofs.Common.{rules, inl, inr}
use Rattle.tt_code.proofs.Staying.{result_stays, truth_one, truth_zero}
use Rattle.tt_code.proofs.quick.perform_quickly.Goals as goal

pub returns-in-Some-clause-some : goal.returns-in-Some-clause-some
returns-in-Some-clause-some c =
    λ next. result_stays c.in-Some.field-0 c.args.values.now (search rules) c.in-Some.ensures next c.args.instruction.now c.in-Result.is

pub returns-in-Some-newest_number-clause-some : goal.returns-in-Some-newest_number-clause-some
returns-in-Some-newest_number-clause-some c =
    λ next. elim c.if-number-eq1.either [
      | inl zero ↦ truth_zero c.in-Some-newest_number.number c.args.values.now (search rules) c.in-Some-newest_number.ensures next
          c.args.instruction.now c.in-Truth.is (search rules)
      | inr one ↦ truth_one c.in-Some-newest_number.number c.args.values.now (search rules) c.in-Some-newest_number.ensures next
          c.args.instruction.now c.in-Truth.is (search rules)
    ]
