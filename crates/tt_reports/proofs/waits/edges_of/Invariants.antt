use Rattle.std.proofs.Common.{◌≡◌, take}
use Rattle.tt_waits.specs.Waiting.{edges_of}
use Rattle.tt_reports.proofs.waits.edges_of.Given as goal

abbrev pub invariant-loop-one : goal.invariant-loop-one
invariant-loop-one l = l.edges.items ≡ edges_of (take l.one-index l.waiting)
