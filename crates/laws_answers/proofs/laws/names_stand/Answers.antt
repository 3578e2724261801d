use Rattle.laws_answers.proofs.Whole.{names_stand}
use Rattle.laws_answers.proofs.laws.names_stand.Goals as goal

pub returns : goal.returns
returns c = names_stand
