use Rattle.laws_shared.proofs.Orderly.{orderly}
use Rattle.laws_shared.proofs.laws.runs_are_orderly.Goals as goal

pub returns : goal.returns
returns c = orderly
