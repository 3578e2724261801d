use Rattle.laws_caught.proofs.Locks.{lock_wait}
use Rattle.laws_caught.proofs.laws.who_waits_for_a_lock_waits_on.Goals as goal

pub returns : goal.returns
returns c = lock_wait
