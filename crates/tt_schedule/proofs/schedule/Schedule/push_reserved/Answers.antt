use Rattle.std.proofs.Common.{ap}
use Rattle.tt_schedule.specs.Schedule.{Listing}
use Rattle.tt_schedule.proofs.RunLemmas.{length-listed}
use Rattle.tt_schedule.proofs.schedule.Schedule.push_reserved.Goals as goal

pub add_step-requires-clause-few : goal.add_step-requires-clause-few
add_step-requires-clause-few c =
    let listed = length-listed c.self.inside.runs.items c.args.self.now.threads c.self.invariant (ap (λ (l : Listing). l.threads) c.self.view_is) in
    rw (← listed.0) c.requires.short
