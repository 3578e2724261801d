use Rattle.tt_machine.proofs.Steps.{same_run}
use Rattle.tt_machine.proofs.laws.one_run.Goals as goal

pub returns : goal.returns
returns c = same_run
