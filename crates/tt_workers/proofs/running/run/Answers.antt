use Rattle.std.proofs.Common.{subst}
use Rattle.tt_workers.specs.Ran.{IsRan}
use Rattle.tt_workers.proofs.running.run.Goals as goal

pub returns-in-Err : goal.returns-in-Err
returns-in-Err g c = record { ran = c.without_memory.ensures.ran _ c.in-Err.ensures.handed_back }

pub new-requires : goal.new-requires
new-requires g c = record { steps = c.requires.steps }

pub run_world-requires-clause-workers : goal.run_world-requires-clause-workers
run_world-requires-clause-workers g c κs within = c.requires.workers

pub run_world-requires-clause-tied : goal.run_world-requires-clause-tied
run_world-requires-clause-tied g c κs within = c.in-Ok.ensures.tied

pub returns-in-Ok : goal.returns-in-Ok
returns-in-Ok g c = record { ran = subst (λ begun. IsRan g.S.Source g.K.Sink g.E.Sink begun c.run_world.result) c.in-Ok.ensures.begun c.run_world.ensures.ran }
