use Rattle.std.proofs.Common.{IsTrue, IsFalse}
use Rattle.tt_core.specs.inside.Crew.{is_ready}
use Rattle.tt_core.proofs.StandLemmas.{barred, ready}
use Rattle.tt_core.proofs.system.System.enabled.Goals as goal

pub returns-clause-can : goal.returns-clause-can
returns-clause-can g c can =
    let is : IsTrue (is_ready c.self.inside.desk c.self.inside.crew c.args.thread) = rw (← c.is_ready.ensures) can in
    rw (← c.self.view_is)
    (ready g.S.Source.held g.K.Sink.got g.E.Sink.got c.self.inside.setup c.self.inside.began c.self.inside.desk c.args.thread
    c.self.inside.crew is c.self.invariant)

pub returns-clause-barred : goal.returns-clause-barred
returns-clause-barred g c unable =
    let is : IsFalse (is_ready c.self.inside.desk c.self.inside.crew c.args.thread) = rw (← c.is_ready.ensures) unable in
    rw (← c.self.view_is)
    (λ kept. barred g.S.Source.held g.K.Sink.got g.E.Sink.got c.self.inside.setup c.self.inside.began c.self.inside.desk c.args.thread
    c.self.inside.crew kept is c.self.invariant)
