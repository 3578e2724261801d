use Rattle.tt_workers.proofs.RoundLemmas.{keeps-ended, keeps-stuck, rounds-end, rounds-rest}
use Rattle.tt_workers.proofs.TurnLemmas.{whole-part}
use Rattle.tt_workers.specs.declared.next.RunEnd.TheVariants.{Stuck}
use Rattle.tt_workers.proofs.world.World.settle.Goals as goal

pub returns-then-is_any_elsewhere : goal.returns-then-is_any_elsewhere
returns-then-is_any_elsewhere g c =
    let found = c.is_any_elsewhere.ensures.there c.if-is_any_elsewhere.true in
    let going = rw (← c.self.view_is) at c.requires.going in
    let kept = rw (← c.self.view_is) at c.requires.kept in
    let within = rw (← c.self.view_is) at c.requires.within in
    let unready = rw (← c.self.view_is) at c.requires.unready in
    record {
      keeps = keeps-ended g.S.Source g.K.Sink g.E.Sink c.args.pass c.args.self.now;
      goes = rw (← c.self.view_is) (rounds-rest c.args.pass found.0 _ going kept within unready found.1);
    }

pub returns : goal.returns
returns g c =
    let nowhere = c.is_any_elsewhere.ensures.nowhere c.if-is_any_elsewhere.false in
    let going = rw (← c.self.view_is) at c.requires.going in
    let kept = rw (← c.self.view_is) at c.requires.kept in
    let within = rw (← c.self.view_is) at c.requires.within in
    let not_over = rw (← c.self.view_is) at c.requires.not_over in
    let unready = rw (← c.self.view_is) at c.requires.unready in
    record {
      keeps = rw (← c.self.view_is) (keeps-stuck g.S.Source g.K.Sink g.E.Sink c.args.pass _ _ _ _ going kept not_over unready nowhere);
      goes = rw (← c.self.view_is)
          (rounds-end c.args.pass _ c.self.inside.desk c.self.inside.desk c.self.inside.roster c.self.inside.roster c.self.inside.end Stuck
          going kept (whole-part c.self.inside.desk.schedule) within);
    }
