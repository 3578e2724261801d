use Rattle.laws_language.proofs.Commands.{begins_law}
use Rattle.laws_language.proofs.one_answer.a_thread_begins_in_one_way.Goals as goal

pub returns : goal.returns
returns c = begins_law
