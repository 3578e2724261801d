use Rattle.std.proofs.Common.{ap, arith}
use Rattle.tt_schedule.specs.Schedule.{Listing}
use Rattle.tt_schedule.proofs.RunLemmas.{length-listed}
use Rattle.tt_schedule.proofs.schedule.Schedule.at.Goals as goal

pub overflow_cast-place : goal.overflow_cast-place
overflow_cast-place c =
    let listed = length-listed c.self.inside.runs.items c.args.self.now.threads c.self.invariant (ap (λ (l : Listing). l.threads) c.self.view_is) in
    omega (arith, listed.1)

pub thread_at-requires-clause-within : goal.thread_at-requires-clause-within
thread_at-requires-clause-within c =
    let listed = length-listed c.self.inside.runs.items c.args.self.now.threads c.self.invariant (ap (λ (l : Listing). l.threads) c.self.view_is) in
    rw (c.deref.ensures.value, ← listed.0) c.requires
