use Rattle.tt_waits.proofs.WaitLawProofs.{one_list_law}
use Rattle.tt_waits.proofs.laws.there_is_one_list.Goals as goal

pub returns : goal.returns
returns c = one_list_law
