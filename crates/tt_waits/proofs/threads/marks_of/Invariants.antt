use Rattle.std.proofs.Common.{◌≡◌, ℕ, length, take, ◌↔◌}
use Rattle.tt_waits.specs.inside.Marks.{IsMarked}
use Rattle.tt_waits.specs.inside.Places.{IsJoined}
use Rattle.tt_waits.proofs.threads.marks_of.Given as goal

abbrev pub invariant-loop-edge : goal.invariant-loop-edge
invariant-loop-edge l = record {
  same_count : l.rows.count ≡ length l.threads;
  so_far : (i j : ℕ) → IsMarked l.rows i j ↔ IsJoined l.threads (take l.edge-index l.edges) i j;
}
