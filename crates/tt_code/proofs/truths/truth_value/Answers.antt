use Rattle.std.proofs.Common.{rules}
use Rattle.tt_code.proofs.Numbers.{number_truth}
use Rattle.tt_code.proofs.truths.truth_value.Goals as goal

pub returns-in-Some : goal.returns-in-Some
returns-in-Some c =
    let is = number_truth _ c.args.value (search rules) c.in-Some.ensures.written in
    search (is, rules)
