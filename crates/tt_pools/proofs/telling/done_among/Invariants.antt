use Rattle.std.proofs.Common.{◌≡◌, ◌++◌, drop}
use Rattle.std.specs.List.{filter}
use Rattle.tt_pools.specs.Jobs.{is_done}
use Rattle.tt_pools.proofs.telling.done_among.Given as goal

abbrev pub invariant-loop-job : goal.invariant-loop-job
invariant-loop-job l = l.done ++ filter (is_done l.jobs) (drop l.job-index l.listed) ≡ filter (is_done l.jobs) l.listed
