use Rattle.std.proofs.Common.{Option, subst, sym}
use Rattle.tt_workers.proofs.TurnLemmas.{turning-back, turning-none}
use Rattle.tt_workers.specs.inside.Rounds.{Turning}
use Rattle.tt_workers.specs.declared.next.Done.{Done}
use Rattle.tt_workers.proofs.world.World.bring.Goals as goal

pub returns-in-Some : goal.returns-in-Some
returns-in-Some g c = record {
  so_far = subst (λ (done : Option Done). Turning g.S.Source g.K.Sink g.E.Sink c.args.pass done c.args.self.now c.take_back.new.self) (sym c.in-Some.is)
      (turning-back g.S.Source g.K.Sink g.E.Sink c.args.pass c.in-Some.done c.args.self.now c.take_back.new.self c.requires.tied.0
      c.requires.tied.1 c.take_back.ensures.back);
}

pub returns-in-None : goal.returns-in-None
returns-in-None g c = record {
  so_far = subst (λ (done : Option Done). Turning g.S.Source g.K.Sink g.E.Sink c.args.pass done c.args.self.now c.args.self.now) (sym c.in-None.is)
      (turning-none g.S.Source g.K.Sink g.E.Sink c.args.pass c.args.self.now c.requires.tied.0 c.requires.tied.1);
}
