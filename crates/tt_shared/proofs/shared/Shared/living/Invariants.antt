use Rattle.std.proofs.Common.{◌≡◌, take}
use Rattle.std.specs.List.{filter}
use Rattle.tt_threads.specs.Rows.{is_living}
use Rattle.tt_shared.proofs.shared.Shared.living.Given as goal

abbrev pub invariant-loop-thread : goal.invariant-loop-thread
invariant-loop-thread l = l.living.items ≡ filter (λ u. is_living l.self.rows u) (take l.thread-index l.threads)
