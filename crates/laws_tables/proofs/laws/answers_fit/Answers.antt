use Rattle.laws_tables.proofs.Fits.{answers_fit}
use Rattle.laws_tables.proofs.laws.answers_fit.Goals as goal

pub returns : goal.returns
returns c = answers_fit
