use Rattle.tt_tsv.proofs.HeldLaw.{answers_nobody_else}
use Rattle.tt_tsv.proofs.laws.held_arrays_answer_nobody_else.Goals as goal

pub returns : goal.returns
returns c = answers_nobody_else
