use Rattle.std.proofs.Common.{sym}
use Rattle.tt_schedule.proofs.RunLemmas.{end_of-more}
use Rattle.tt_schedule.proofs.run.step_count.Goals as goal

pub returns-in-Some : goal.returns-in-Some
returns-in-Some c = rw c.in-Some.ensures.cases.0 (sym (end_of-more 0 c.in-Some.field-0-1.now c.in-Some.last.now))
