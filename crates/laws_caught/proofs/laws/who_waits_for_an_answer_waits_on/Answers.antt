use Rattle.laws_caught.proofs.Answers.{answer_wait}
use Rattle.laws_caught.proofs.laws.who_waits_for_an_answer_waits_on.Goals as goal

pub returns : goal.returns
returns c = answer_wait
