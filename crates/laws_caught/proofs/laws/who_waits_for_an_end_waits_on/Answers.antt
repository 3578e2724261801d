use Rattle.laws_caught.proofs.Ended.{end_wait}
use Rattle.laws_caught.proofs.laws.who_waits_for_an_end_waits_on.Goals as goal

pub returns : goal.returns
returns c = end_wait
