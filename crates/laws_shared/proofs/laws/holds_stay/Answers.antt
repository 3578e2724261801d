use Rattle.laws_shared.proofs.HeldLocks.{hold_stays}
use Rattle.laws_shared.proofs.laws.holds_stay.Goals as goal

pub returns : goal.returns
returns c = hold_stays
