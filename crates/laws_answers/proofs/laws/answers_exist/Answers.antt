use Rattle.laws_answers.proofs.Whole.{answers_exist}
use Rattle.laws_answers.proofs.laws.answers_exist.Goals as goal

pub returns : goal.returns
returns c = answers_exist
