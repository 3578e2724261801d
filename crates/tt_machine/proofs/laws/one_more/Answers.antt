use Rattle.tt_machine.proofs.Steps.{one_more}
use Rattle.tt_machine.proofs.laws.one_more.Goals as goal

pub returns : goal.returns
returns c = one_more
