use Rattle.tt_machine.proofs.WaitingLists.{grows}
use Rattle.tt_machine.proofs.laws.waiting_grows.Goals as goal

pub returns : goal.returns
returns c = grows
