use Rattle.std.proofs.Common.{◌≡◌, ◌++◌, map, take}
use Rattle.tt_waits.specs.Walks.{edge}
use Rattle.tt_reports.proofs.waits.push_edges.Given as goal

abbrev pub invariant-loop-other : goal.invariant-loop-other
invariant-loop-other l = l.edges.items ≡ l.fn.edges.items ++ map (edge l.one.thread) (take l.other-index l.one.others)
