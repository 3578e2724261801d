use Rattle.tt_shared.proofs.Blockers.{exact}
use Rattle.tt_shared.proofs.laws.blockers_are_exact.Goals as goal

pub returns : goal.returns
returns c = exact
