use Rattle.std.proofs.Common.{◌∙◌, None, ap, replicate, subst, sym}
use Rattle.tt_workers.proofs.WorkerLemmas.{ran-back}
use Rattle.tt_workers.specs.Ran.{IsRan}
use Rattle.tt_workers.specs.inside.Turns.{note_after}
use Rattle.tt_workers.specs.inside.World.{IsTied}
use Rattle.tt_workers.proofs.running.run_world.Goals as goal

pub run_boxed-requires-clause-tied : goal.run_boxed-requires-clause-tied
run_boxed-requires-clause-tied g c κs within count =
    subst (λ one. IsTied g.S.Source g.K.Sink g.E.Sink one (replicate count c.note-note.result)) (sym c.in-Ok.ensures.ok)
    (subst (λ note. IsTied g.S.Source g.K.Sink g.E.Sink c.args.world (replicate count note)) (sym c.note-note.ensures) (c.requires.tied count))

pub returns : goal.returns
returns g c = record {
  ran = ran-back g.S.Source g.K.Sink g.E.Sink c.args.world c.in-Err.failed.value _ c.finish.result c.in-Err.ensures.value_returned
      (c.requires.tied 0) c.finish.ensures.ran;
}

pub run_boxed-requires-clause-workers : goal.run_boxed-requires-clause-workers
run_boxed-requires-clause-workers g c κs within = c.requires.workers

pub run_boxed-requires-clause-note : goal.run_boxed-requires-clause-note
run_boxed-requires-clause-note g c κs within = c.note-note.ensures ∙ ap (λ w. note_after w None) (sym c.in-Ok.ensures.ok)

pub returns-in-Ok : goal.returns-in-Ok
returns-in-Ok g c =
    record { ran = subst (λ world. IsRan g.S.Source g.K.Sink g.E.Sink world.begun c.run_boxed.result) c.in-Ok.ensures.ok c.run_boxed.ensures.ran }
