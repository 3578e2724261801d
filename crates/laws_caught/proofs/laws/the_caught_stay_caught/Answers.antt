use Rattle.laws_caught.proofs.Caught.{caught_stay}
use Rattle.laws_caught.proofs.laws.the_caught_stay_caught.Goals as goal

pub returns : goal.returns
returns c = caught_stay
