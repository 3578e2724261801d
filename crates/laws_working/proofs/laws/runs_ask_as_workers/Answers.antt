use Rattle.laws_working.proofs.Runs.{asking_law}
use Rattle.laws_working.proofs.laws.runs_ask_as_workers.Goals as goal

pub returns : goal.returns
returns c = asking_law
