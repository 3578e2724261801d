use Rattle.std.proofs.Common.{sym}
use Rattle.tt_workers.proofs.RoundLemmas.{keeps-ended, keeps-over}
use Rattle.tt_workers.proofs.TieLemmas.{no-end}
use Rattle.tt_workers.proofs.world.World.go_on.Goals as goal

pub returns-then-is_some-clause-keeps : goal.returns-then-is_some-clause-keeps
returns-then-is_some-clause-keeps g c = keeps-ended g.S.Source g.K.Sink g.E.Sink c.args.pass c.args.self.now

pub returns-in-Some-clause-keeps : goal.returns-in-Some-clause-keeps
returns-in-Some-clause-keeps g c =
    let none = no-end c.self.inside.end (rw (← c.is_some.ensures) c.if-is_some.false) in
    rw (← c.self.view_is) (keeps-over g.S.Source g.K.Sink g.E.Sink c.args.pass _ _ _ _ c.in-Some.code none (sym c.in-Some.ensures.over))
