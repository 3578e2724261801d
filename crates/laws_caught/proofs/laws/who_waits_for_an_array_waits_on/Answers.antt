use Rattle.laws_caught.proofs.Arrays.{array_wait}
use Rattle.laws_caught.proofs.laws.who_waits_for_an_array_waits_on.Goals as goal

pub returns : goal.returns
returns c = array_wait
