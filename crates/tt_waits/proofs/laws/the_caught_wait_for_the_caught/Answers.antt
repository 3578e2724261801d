use Rattle.tt_waits.proofs.WaitLawProofs.{circle_law}
use Rattle.tt_waits.proofs.laws.the_caught_wait_for_the_caught.Goals as goal

pub returns : goal.returns
returns c = circle_law
