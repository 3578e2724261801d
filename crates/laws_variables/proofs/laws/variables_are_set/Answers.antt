use Rattle.laws_variables.proofs.Variables.{variables_set}
use Rattle.laws_variables.proofs.laws.variables_are_set.Goals as goal

pub returns : goal.returns
returns c = variables_set
