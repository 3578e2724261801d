use Rattle.std.proofs.Common.{◌≡◌}
use Rattle.tt_shared.specs.Sends.{broadcasts_to}
use Rattle.tt_shared.proofs.shared.Shared.broadcast.Given as goal

abbrev pub invariant-loop-place : goal.invariant-loop-place
invariant-loop-place l = l.self ≡ broadcasts_to l.place l.thread l.script l.fn.self
