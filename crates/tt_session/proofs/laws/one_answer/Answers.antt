use Rattle.tt_session.proofs.AnswerLemmas.{one_answer}
use Rattle.tt_session.proofs.laws.one_answer.Goals as goal

pub returns : goal.returns
returns g c = one_answer g.F.Files g.S.Source g.K.Sink g.E.Sink
