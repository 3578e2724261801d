use Rattle.tt_text.proofs.GlobLaw.{glob_law}
use Rattle.tt_text.proofs.laws.glob_law.Goals as goal

pub returns : goal.returns
returns c = record { law = glob_law }
