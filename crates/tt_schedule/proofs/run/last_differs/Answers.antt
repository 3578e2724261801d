use Rattle.std.proofs.Common.{arith}
use Rattle.std.proofs.lemmas.Bool.Decides.{nat_tests}
use Rattle.tt_schedule.proofs.RunLemmas.{last-more, last-is}
use Rattle.tt_schedule.proofs.run.last_differs.Goals as goal

pub returns-in-Some : goal.returns-in-Some
returns-in-Some c = rw c.in-Some.ensures.cases.0 (
  (λ test. last-more c.in-Some.field-0-1.now c.in-Some.last.now c.args.thread (grind (arith, nat_tests))),
  (λ differs. let other = last-is c.in-Some.field-0-1.now c.in-Some.last.now c.args.thread differs in grind (arith, nat_tests)),
)
