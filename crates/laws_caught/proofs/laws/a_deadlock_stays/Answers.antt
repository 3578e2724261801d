use Rattle.laws_caught.proofs.Deadlock.{deadlock_stays}
use Rattle.laws_caught.proofs.laws.a_deadlock_stays.Goals as goal

pub returns : goal.returns
returns c = deadlock_stays
