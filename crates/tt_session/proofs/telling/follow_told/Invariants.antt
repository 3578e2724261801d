use Rattle.tt_session.proofs.TellingLemmas.{IsTelling}
use Rattle.tt_session.proofs.telling.follow_told.Given as goal

abbrev pub invariant-loop-place : goal.invariant-loop-place
invariant-loop-place g l =
    IsTelling g.S.Source.held g.S.Source.fault_count g.K.Sink.fault_count g.E.Sink.fault_count l.fn.system l.system l.given.threads l.place l.order
