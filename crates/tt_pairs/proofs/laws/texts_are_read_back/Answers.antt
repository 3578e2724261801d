use Rattle.tt_pairs.proofs.PairLaws.{reads_back}
use Rattle.tt_pairs.proofs.laws.texts_are_read_back.Goals as goal

pub returns : goal.returns
returns c = reads_back
