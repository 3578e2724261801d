use Rattle.tt_machine.proofs.WaitingLists.{one_list}
use Rattle.tt_machine.proofs.laws.one_list_of_waiting.Goals as goal

pub returns : goal.returns
returns c = one_list
