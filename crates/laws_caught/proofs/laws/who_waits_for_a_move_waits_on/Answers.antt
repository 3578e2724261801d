use Rattle.laws_caught.proofs.Moving.{move_wait}
use Rattle.laws_caught.proofs.laws.who_waits_for_a_move_waits_on.Goals as goal

pub returns : goal.returns
returns c = move_wait
