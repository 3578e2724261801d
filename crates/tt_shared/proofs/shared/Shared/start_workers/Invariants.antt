use Rattle.std.proofs.Common.{◌≡◌}
use Rattle.tt_shared.specs.Acts.{with_workers}
use Rattle.tt_shared.proofs.shared.Shared.start_workers.Given as goal

abbrev pub invariant-loop : goal.invariant-loop
invariant-loop l = l.self ≡ with_workers l.counter l.worker l.fn.self
