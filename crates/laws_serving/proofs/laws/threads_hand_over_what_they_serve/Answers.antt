use Rattle.laws_serving.proofs.Replies.{deliver_law}
use Rattle.laws_serving.proofs.laws.threads_hand_over_what_they_serve.Goals as goal

pub returns : goal.returns
returns c = deliver_law
