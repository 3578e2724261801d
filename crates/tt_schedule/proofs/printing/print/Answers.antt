use Rattle.std.proofs.Common.{sym, ap}
use Rattle.tt_schedule.specs.Schedule.{Listing}
use Rattle.tt_schedule.specs.inside.Runs.{lines_from}
use Rattle.tt_schedule.proofs.RunLemmas.{are_lines}
use Rattle.tt_schedule.proofs.printing.print.Goals as goal

pub returns : goal.returns
returns c = record {
  lines = lines_from 0 c.schedule.inside.runs.items;
  are_lines = are_lines c.schedule.inside.runs.items c.schedule.invariant;
  spelled = rw (c.deref.ensures.value, c.in_ok-text.ensures.made) at c.in_ok-push_runs.ensures;
  steps = sym (ap (λ (l : Listing). l.threads) c.schedule.view_is);
}
