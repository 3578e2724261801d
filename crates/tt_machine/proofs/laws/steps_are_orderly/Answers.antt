use Rattle.tt_machine.proofs.RunActionLemmas.{steps_orderly}
use Rattle.tt_machine.proofs.laws.steps_are_orderly.Goals as goal

pub returns : goal.returns
returns c = steps_orderly
