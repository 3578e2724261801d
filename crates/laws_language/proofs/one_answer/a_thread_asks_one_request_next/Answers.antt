use Rattle.laws_language.proofs.Asked.{one_request}
use Rattle.laws_language.proofs.one_answer.a_thread_asks_one_request_next.Goals as goal

pub returns : goal.returns
returns c = one_request
