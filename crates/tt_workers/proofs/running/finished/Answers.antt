use Rattle.std.proofs.Common.{◌≡◌, subst, sym}
use Rattle.tt_workers.specs.Ran.{IsRan}
use Rattle.tt_workers.specs.inside.World.{IsTied}
use Rattle.tt_workers.proofs.running.finished.Goals as goal

pub returns : goal.returns
returns g c = record {
  ran = λ notes tied.
      let same : c.into_inner.result ≡ c.args.world.value = c.into_inner.ensures in
      subst (λ world. IsRan g.S.Source g.K.Sink g.E.Sink world.begun c.finish.result) same
      (c.finish.ensures.ran notes (subst (λ world. IsTied g.S.Source g.K.Sink g.E.Sink world notes) (sym same) tied));
}
