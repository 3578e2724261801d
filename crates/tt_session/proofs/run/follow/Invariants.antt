use Rattle.tt_session.proofs.FollowLemmas.{IsFollowing}
use Rattle.tt_session.proofs.run.follow.Given as goal

abbrev pub invariant-loop-place : goal.invariant-loop-place
invariant-loop-place g l =
    IsFollowing g.S.Source.fault_count g.K.Sink.fault_count g.E.Sink.fault_count l.fn.system l.system l.given.threads l.place
