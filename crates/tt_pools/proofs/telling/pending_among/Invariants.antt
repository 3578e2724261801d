use Rattle.std.proofs.Common.{◌≡◌, ◌++◌, drop}
use Rattle.std.specs.List.{filter}
use Rattle.tt_pools.specs.Jobs.{is_pending}
use Rattle.tt_pools.proofs.telling.pending_among.Given as goal

abbrev pub invariant-loop-job : goal.invariant-loop-job
invariant-loop-job l = l.pending ++ filter (is_pending l.jobs) (drop l.job-index l.listed) ≡ filter (is_pending l.jobs) l.listed
