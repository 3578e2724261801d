use Rattle.tclsearch.proofs.FindLemmas.{find_law}
use Rattle.tclsearch.proofs.laws.finds_are_replayed.Goals as goal

pub returns : goal.returns
returns g c = find_law g.F.Files g.S.Source g.K.Sink g.E.Sink c.recorded_runs_are_replayed.ensures
