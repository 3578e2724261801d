use Rattle.tt_session.proofs.TurnLemmas.{IsTurning}
use Rattle.tt_session.proofs.run.take_turns.Given as goal

abbrev pub invariant-loop : goal.invariant-loop
invariant-loop g l =
    IsTurning g.S.Source.held g.S.Source.fault_count g.K.Sink.fault_count g.E.Sink.fault_count l.fn.system l.system l.last l.counter
