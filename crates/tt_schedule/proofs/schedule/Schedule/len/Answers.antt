use Rattle.std.proofs.Common.{◌≡◌, ap, ◌∙◌, sym, length, List}
use Rattle.tt_schedule.specs.Schedule.{Listing}
use Rattle.tt_schedule.specs.inside.Runs.{end_of}
use Rattle.tt_schedule.specs.declared.run.Run.{Run}
use Rattle.tt_schedule.proofs.RunLemmas.{length-listed}
use Rattle.tt_schedule.proofs.schedule.Schedule.len.Goals as goal

counted : (c : goal.After-from) → c.from.result ≡ length c.args.self.now.threads
counted c =
    let listed = length-listed c.self.inside.runs.items c.args.self.now.threads c.self.invariant (ap (λ (l : Listing). l.threads) c.self.view_is) in
    c.from.ensures ∙ (c.step_count.ensures ∙ (ap (λ (runs : List Run). end_of 0 runs) c.deref.ensures.value ∙ sym listed.0))

pub returns-clause-count : goal.returns-clause-count
returns-clause-count c = counted c

pub returns-clause-few : goal.returns-clause-few
returns-clause-few c =
    rw (counted c) (length-listed c.self.inside.runs.items c.args.self.now.threads c.self.invariant (ap (λ (l : Listing). l.threads) c.self.view_is)).1
