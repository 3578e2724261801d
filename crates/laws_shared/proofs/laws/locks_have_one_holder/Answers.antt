use Rattle.laws_shared.proofs.HeldLocks.{one_hold}
use Rattle.laws_shared.proofs.laws.locks_have_one_holder.Goals as goal

pub returns : goal.returns
returns c = one_hold
