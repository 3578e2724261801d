use Rattle.std.proofs.Common.{◌≡◌, map, take}
use Rattle.tt_waits.proofs.threads.starts.Given as goal

abbrev pub invariant-loop-edge : goal.invariant-loop-edge
invariant-loop-edge l = l.threads.items ≡ map (λ edge. edge.from) (take l.edge-index l.edges)
