use Rattle.laws_language.proofs.Commands.{answers_law}
use Rattle.laws_language.proofs.one_answer.an_evaluation_gets_one_thing.Goals as goal

pub returns : goal.returns
returns c = answers_law
