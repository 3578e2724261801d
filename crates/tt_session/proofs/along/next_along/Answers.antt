use Rattle.tt_session.proofs.AlongLemmas.{next-can}
use Rattle.tt_session.proofs.along.next_along.Goals as goal

pub returns-in-Some-clause-can : goal.returns-in-Some-clause-can
returns-in-Some-clause-can g c = λ going. next-can g.S.Source.held c.args.system.now c.args.last c.in-Some.thread (c.in-Some.ensures.next going)
