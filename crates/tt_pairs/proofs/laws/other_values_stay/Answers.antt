use Rattle.tt_pairs.proofs.PairLaws.{other_values_law}
use Rattle.tt_pairs.proofs.laws.other_values_stay.Goals as goal

pub returns : goal.returns
returns c = other_values_law
