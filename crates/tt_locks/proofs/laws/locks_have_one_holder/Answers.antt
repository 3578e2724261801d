use Rattle.tt_locks.proofs.HolderLaw.{one_holder}
use Rattle.tt_locks.proofs.laws.locks_have_one_holder.Goals as goal

pub returns : goal.returns
returns c = one_holder
