use Rattle.laws_living.proofs.Asking.{living_law}
use Rattle.laws_living.proofs.laws.living_threads_ask.Goals as goal

pub returns : goal.returns
returns c = living_law
