use Rattle.laws_serving.proofs.Replies.{serving_law}
use Rattle.laws_serving.proofs.laws.replies_change_what_is_served.Goals as goal

pub returns : goal.returns
returns c = serving_law
