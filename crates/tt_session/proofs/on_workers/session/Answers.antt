use Rattle.tt_session.proofs.CloseLemmas.{moved-answer, usage-answer}
use Rattle.tt_session.proofs.on_workers.session.Goals as goal

pub returns-in-Plain-clause-answer : goal.returns-in-Plain-clause-answer
returns-in-Plain-clause-answer g c =
    moved-answer g.F.Files g.S.Source g.K.Sink g.E.Sink _ _ _ _ _ _ _ _ _ _ _ c.in-Plain.ensures.nothing_done c.in-Plain.ensures.handed_back c.plain.ensures

pub returns-in-Plain-clause-usage : goal.returns-in-Plain-clause-usage
returns-in-Plain-clause-usage g c = usage-answer g.F.Files g.S.Source g.K.Sink g.E.Sink _ _ _ _ _ c.plain.ensures
