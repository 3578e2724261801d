use Rattle.tt_waits.proofs.WaitLawProofs.{no_circle_law}
use Rattle.tt_waits.proofs.laws.without_circle_the_list_is_empty.Goals as goal

pub returns : goal.returns
returns c = no_circle_law
