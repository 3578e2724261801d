use Rattle.tt_workers.proofs.RoundLemmas.{back-empty, back-ended, back-parked}
use Rattle.tt_workers.proofs.TieLemmas.{no-end}
use Rattle.tt_workers.proofs.world.World.take_back.Goals as goal

pub returns-then-is_some : goal.returns-then-is_some
returns-then-is_some g c =
    let kept = rw (← c.self.view_is) at c.requires.kept in
    record { back = rw (← c.self.view_is) (back-ended g.S.Source g.K.Sink g.E.Sink c.args.done _ (rw (← c.is_some.ensures) c.if-is_some.true) kept) }

pub returns-in-OutOfMemory : goal.returns-in-OutOfMemory
returns-in-OutOfMemory g c =
    let none = no-end c.self.inside.end (rw (← c.is_some.ensures) c.if-is_some.false) in
    record { back = rw (← c.self.view_is) (back-empty g.S.Source g.K.Sink g.E.Sink c.args.done _ _ _ _ _ _ none c.run_out.ensures.kept) }

pub returns-in-Halted : goal.returns-in-Halted
returns-in-Halted g c =
    let none = no-end c.self.inside.end (rw (← c.is_some.ensures) c.if-is_some.false) in
    let kept = rw (← c.self.view_is) at c.requires.kept in
    record { back = rw (← c.self.view_is) (back-parked g.S.Source g.K.Sink g.E.Sink c.args.done _ _ _ _ _ none kept c.in-Halted.is c.park.ensures) }
