use Rattle.std.proofs.Common.{◌≡◌, drop}
use Rattle.std.specs.List.{fold}
use Rattle.tt_pools.specs.Jobs.{cancels, cancels_one}
use Rattle.tt_pools.specs.inside.Cancelling.{so_far}
use Rattle.tt_pools.proofs.cancel.cancel_all.Given as goal

abbrev pub invariant-loop-job : goal.invariant-loop-job
invariant-loop-job l = fold cancels_one (so_far l.jobs l.left) (drop l.job-index l.listed) ≡ cancels l.fn.jobs l.listed
