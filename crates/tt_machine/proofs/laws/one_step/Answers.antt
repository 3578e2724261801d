use Rattle.tt_machine.proofs.Steps.{same_step}
use Rattle.tt_machine.proofs.laws.one_step.Goals as goal

pub returns : goal.returns
returns c = same_step
