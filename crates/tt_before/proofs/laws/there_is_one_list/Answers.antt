use Rattle.tt_before.proofs.RaceLawProofs.{one_list}
use Rattle.tt_before.proofs.laws.there_is_one_list.Goals as goal

pub returns : goal.returns
returns c = one_list
