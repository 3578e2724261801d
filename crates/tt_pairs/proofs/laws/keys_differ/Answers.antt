use Rattle.tt_pairs.proofs.PairLaws.{keys_law}
use Rattle.tt_pairs.proofs.laws.keys_differ.Goals as goal

pub returns : goal.returns
returns c = keys_law
