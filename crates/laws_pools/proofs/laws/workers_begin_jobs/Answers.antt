use Rattle.laws_pools.proofs.Workers.{workers_begin}
use Rattle.laws_pools.proofs.laws.workers_begin_jobs.Goals as goal

pub returns : goal.returns
returns c = workers_begin
