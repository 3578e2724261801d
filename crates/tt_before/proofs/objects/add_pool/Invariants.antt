use Rattle.std.proofs.Common.{◌≡◌, ◌++◌, take}
use Rattle.std.specs.List.{filter_map}
use Rattle.tt_before.specs.Objects.{pool_if}
use Rattle.tt_before.proofs.objects.add_pool.Given as goal

abbrev pub invariant-loop-worker : goal.invariant-loop-worker
invariant-loop-worker l = l.objects.items ≡ l.fn.objects.items ++ filter_map (pool_if l.thread) (take l.worker-index l.workers)
