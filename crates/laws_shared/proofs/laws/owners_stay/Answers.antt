use Rattle.laws_shared.proofs.Owners.{stays_own}
use Rattle.laws_shared.proofs.laws.owners_stay.Goals as goal

pub returns : goal.returns
returns c = stays_own
