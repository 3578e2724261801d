use Rattle.laws_pools.proofs.Kept.{jobs_kept}
use Rattle.laws_pools.proofs.laws.jobs_are_kept.Goals as goal

pub returns : goal.returns
returns c = jobs_kept
