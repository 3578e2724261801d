use Rattle.tt_search_words.proofs.OneLemmas.{one_reading}
use Rattle.tt_search_words.proofs.laws.one_reading.Goals as goal

pub returns : goal.returns
returns c = one_reading
