use Rattle.tt_script.proofs.ElementNames.{element_name_law}
use Rattle.tt_script.proofs.laws.element_name_law.Goals as goal

pub returns : goal.returns
returns c = element_name_law
