use Rattle.laws_shared.proofs.GoesOn.{goes_on}
use Rattle.laws_shared.proofs.laws.runs_go_on.Goals as goal

pub returns : goal.returns
returns c = goes_on
