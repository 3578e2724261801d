use Rattle.laws_shared.proofs.HeldAlone.{others_wait}
use Rattle.laws_shared.proofs.laws.others_wait_for_held_arrays.Goals as goal

pub returns : goal.returns
returns c = others_wait
