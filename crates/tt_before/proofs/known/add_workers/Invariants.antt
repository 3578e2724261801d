use Rattle.std.proofs.Common.{◌≡◌, ◌++◌}
use Rattle.tt_before.specs.Known.{workers_from}
use Rattle.tt_before.proofs.known.add_workers.Given as goal

abbrev pub invariant-loop-more : goal.invariant-loop-more
invariant-loop-more l = l.workers.items ≡ l.fn.workers.items ++ workers_from l.pool l.first l.more
