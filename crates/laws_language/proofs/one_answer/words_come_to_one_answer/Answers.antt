use Rattle.laws_language.proofs.Commands.{runs_law}
use Rattle.laws_language.proofs.one_answer.words_come_to_one_answer.Goals as goal

pub returns : goal.returns
returns c = runs_law
