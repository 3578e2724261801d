use Rattle.tt_ids.proofs.CallerLemmas.{ids_differ}
use Rattle.tt_ids.proofs.laws.ids_differ.Goals as goal

pub returns : goal.returns
returns c = ids_differ
