use Rattle.tt_session.proofs.AlongLemmas.{IsGoing}
use Rattle.tt_session.proofs.along.go_along.Given as goal

abbrev pub invariant-loop : goal.invariant-loop
invariant-loop g l =
    IsGoing g.S.Source.fault_count g.K.Sink.fault_count g.E.Sink.fault_count l.fn.system l.system l.counter
