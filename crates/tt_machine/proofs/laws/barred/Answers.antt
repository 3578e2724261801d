use Rattle.tt_machine.proofs.Steps.{not_barred}
use Rattle.tt_machine.proofs.laws.barred.Goals as goal

pub returns : goal.returns
returns c = not_barred
