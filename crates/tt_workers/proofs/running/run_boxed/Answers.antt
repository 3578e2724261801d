use denote.Param.{param}
use Rattle.std.proofs.Common.{ap, refl, replicate}
use Rattle.tt_workers.proofs.Crossing.{state-send}
use Rattle.tt_workers.proofs.WorkerLemmas.{ran-back, ran-boxed}
use Rattle.tt_workers.proofs.running.run_boxed.Goals as goal

pub new-requires-send-T-State : goal.new-requires-send-T-State
new-requires-send-T-State g c κs within =
    state-send (param 1 g.row.S) (param 2 g.row.K) (param 3 g.row.E) g.S.Source g.K.Sink g.E.Sink _ c.type_bounds.send-S
    c.type_bounds.send-K c.type_bounds.send-E

pub returns-in-Ok : goal.returns-in-Ok
returns-in-Ok g c = record {
  ran = ran-boxed g.S.Source g.K.Sink g.E.Sink c.args.workers c.args.note.now c.args.world.value.begun c.carried.result.value
      (replicate c.args.workers c.args.note.now) c.finished.result
      c.requires.workers.0 (ap (λ n. n.begun) c.requires.note) refl c.carried.ensures.tied c.finished.ensures.ran;
}

pub returns-in-Err : goal.returns-in-Err
returns-in-Err g c = record {
  ran = ran-back g.S.Source g.K.Sink g.E.Sink c.args.world.value c.in-Err.world.value _ c.finished-in-Err.result
      (ap (λ w. w.value) c.in-Err.ensures.err) (c.requires.tied 0) c.finished-in-Err.ensures.ran;
}

pub new-requires-clause-count : goal.new-requires-clause-count
new-requires-clause-count g c κs within = c.requires.workers

pub new-requires-clause-fits : goal.new-requires-clause-fits
new-requires-clause-fits g c κs within = c.requires.tied c.args.workers

pub carried-requires-clause-workers : goal.carried-requires-clause-workers
carried-requires-clause-workers g c κs within = c.requires.workers.0

pub carried-requires-clause-count : goal.carried-requires-clause-count
carried-requires-clause-count g c κs within = c.in-Ok.ensures.count

pub carried-requires-clause-passes : goal.carried-requires-clause-passes
carried-requires-clause-passes g c κs within = c.in-Ok.ensures.passes

pub carried-requires-clause-vacant : goal.carried-requires-clause-vacant
carried-requires-clause-vacant g c κs within = ap (λ n. n.out) c.requires.note
