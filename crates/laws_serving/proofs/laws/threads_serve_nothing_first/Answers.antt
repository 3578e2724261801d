use Rattle.laws_serving.proofs.Replies.{first_law}
use Rattle.laws_serving.proofs.laws.threads_serve_nothing_first.Goals as goal

pub returns : goal.returns
returns c = first_law
