use Rattle.tt_debug.proofs.PlaceLemmas.{entered}
use Rattle.tt_debug.proofs.walking.take_entry.Goals as goal

pub returns-in-Ok-clause-goes : goal.returns-in-Ok-clause-goes
returns-in-Ok-clause-goes g c =
    entered g.S.Source.held g.K.Sink.got g.E.Sink.got c.args.given.now.threads c.args.place c.at.result c.args.system.now c.step.new.self
    c.requires.at c.requires.entry c.at.ensures.thread c.in-Ok.ensures.same_beginning c.in-Ok.ensures.stepped c.in-Ok.ensures.goes_on
    c.in-Ok.ensures.orderly
