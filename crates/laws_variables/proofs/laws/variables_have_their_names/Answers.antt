use Rattle.laws_variables.proofs.Named.{variables_named}
use Rattle.laws_variables.proofs.laws.variables_have_their_names.Goals as goal

pub returns : goal.returns
returns c = variables_named
