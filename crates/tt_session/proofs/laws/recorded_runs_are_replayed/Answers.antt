use Rattle.tt_session.proofs.ReplayLemmas.{replay_law}
use Rattle.tt_session.proofs.laws.recorded_runs_are_replayed.Goals as goal

pub returns : goal.returns
returns g c = replay_law g.F.Files g.S.Source g.T.Source g.K.Sink g.E.Sink
