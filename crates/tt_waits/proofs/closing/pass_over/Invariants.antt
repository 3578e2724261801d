use Rattle.std.proofs.Common.{◌≡◌, ℕ, ◌↔◌}
use Rattle.tt_waits.specs.inside.Marks.{IsMarked}
use Rattle.tt_waits.proofs.Passing.{IsPassed}
use Rattle.tt_waits.proofs.closing.pass_over.Given as goal

abbrev pub invariant-loop-place : goal.invariant-loop-place
invariant-loop-place l = record {
  same_count : l.rows.count ≡ l.fn.rows.count;
  so_far : (i j : ℕ) → IsMarked l.rows i j ↔ IsPassed (IsMarked l.fn.rows) l.stop l.place i j;
}
