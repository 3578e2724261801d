use Rattle.tt_machine.proofs.RunActionLemmas.{has_actions}
use Rattle.tt_machine.proofs.laws.runs_are_actions.Goals as goal

pub returns : goal.returns
returns c = has_actions
