use Rattle.tt_core.proofs.StandLemmas.{in-turn}
use Rattle.tt_core.proofs.system.System.next_enabled.Goals as goal

pub returns-clause-next : goal.returns-clause-next
returns-clause-next g c =
    rw (← c.self.view_is)
    (λ kept. in-turn g.S.Source.held g.K.Sink.got g.E.Sink.got c.self.inside.setup c.self.inside.began c.self.inside.desk
    c.self.inside.crew c.args.after c.next_ready.result
    kept c.next_ready.ensures c.self.invariant)
