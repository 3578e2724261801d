use Rattle.tt_core.proofs.StandLemmas.{not-stuck, stuck}
use Rattle.tt_core.proofs.system.System.stuck.Goals as goal

pub returns-clause-stuck : goal.returns-clause-stuck
returns-clause-stuck g c is =
    let idle = c.are_idle.ensures.idle is in (
      rw (← c.self.view_is) idle.unmet,
      rw (← c.self.view_is)
          (stuck g.S.Source.held g.K.Sink.got g.E.Sink.got c.self.inside.setup c.self.inside.began c.self.inside.desk c.self.inside.crew idle c.self.invariant),
    )

pub returns-clause-not_stuck : goal.returns-clause-not_stuck
returns-clause-not_stuck g c is =
    rw (← c.self.view_is)
    (λ kept. not-stuck g.S.Source.held g.K.Sink.got g.E.Sink.got c.self.inside.setup c.self.inside.began c.self.inside.desk
    c.self.inside.crew kept (c.are_idle.ensures.busy is kept) c.self.invariant)
