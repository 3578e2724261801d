use Rattle.std.proofs.Common.{rules, ◌≡◌}
use Rattle.tt_calls.specs.Outcomes.{fine}
use Rattle.tt_exprs.specs.Apply.{result_of}
use Rattle.tt_code.proofs.Numbers.{number_result}
use Rattle.tt_code.proofs.steps.result_of.Goals as goal

pub returns-in-Some-number : goal.returns-in-Some-number
returns-in-Some-number c =
    let is : result_of c.in-Some.value ≡ fine c.in-Some.value = number_result _ c.in-Some.value (search rules) c.in-Some-number.ensures.written in
    search (is, rules)
