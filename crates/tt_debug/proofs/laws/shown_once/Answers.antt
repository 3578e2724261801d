use Rattle.tt_debug.proofs.OnceLemmas.{shown_once}
use Rattle.tt_debug.proofs.laws.shown_once.Goals as goal

pub returns : goal.returns
returns c = shown_once
