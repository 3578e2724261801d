use Rattle.laws_shared.proofs.NotOwned.{not_owned_law}
use Rattle.laws_shared.proofs.laws.channels_answer_their_owner.Goals as goal

pub returns : goal.returns
returns c = not_owned_law
