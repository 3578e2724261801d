use Rattle.laws_answers.proofs.Whole.{always_asks_on}
use Rattle.laws_answers.proofs.laws.threads_always_ask_on.Goals as goal

pub returns : goal.returns
returns c = always_asks_on
