use Rattle.laws_working.proofs.Runs.{worked_law}
use Rattle.laws_working.proofs.laws.runs_work_their_jobs.Goals as goal

pub returns : goal.returns
returns c = worked_law
