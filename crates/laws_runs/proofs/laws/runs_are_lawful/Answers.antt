use Rattle.laws_runs.proofs.Lawful.{lawful_law}
use Rattle.laws_runs.proofs.laws.runs_are_lawful.Goals as goal

pub returns : goal.returns
returns c = lawful_law
