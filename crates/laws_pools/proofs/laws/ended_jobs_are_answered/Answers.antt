use Rattle.laws_pools.proofs.Answering.{answers_get}
use Rattle.laws_pools.proofs.laws.ended_jobs_are_answered.Goals as goal

pub returns : goal.returns
returns c = answers_get
