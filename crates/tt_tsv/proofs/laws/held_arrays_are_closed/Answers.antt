use Rattle.tt_tsv.proofs.HeldLaw.{closed_to_others}
use Rattle.tt_tsv.proofs.laws.held_arrays_are_closed.Goals as goal

pub returns : goal.returns
returns c = closed_to_others
