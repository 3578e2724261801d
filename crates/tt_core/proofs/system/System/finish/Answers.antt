use Rattle.tt_core.proofs.ActionLemmas.{held-part}
use Rattle.tt_core.specs.inside.Standing.{InPlaces}
use Rattle.tt_core.proofs.system.System.finish.Goals as goal

pub returns-clause-left : goal.returns-clause-left
returns-clause-left g c =
    rw (← c.self.view_is) (held-part g.S.Source.held g.K.Sink.got g.E.Sink.got c.self.inside.setup c.self.inside.began c.self.inside.desk
    (InPlaces c.self.inside.crew) _ c.finish.ensures.devices.0 c.self.invariant)
