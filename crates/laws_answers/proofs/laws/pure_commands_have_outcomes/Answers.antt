use Rattle.laws_answers.proofs.PureTable.{pure_answers}
use Rattle.laws_answers.proofs.laws.pure_commands_have_outcomes.Goals as goal

pub returns : goal.returns
returns c = pure_answers
