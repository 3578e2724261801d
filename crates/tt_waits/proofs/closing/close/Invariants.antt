use Rattle.std.proofs.Common.{◌≡◌, ℕ, ◌↔◌}
use Rattle.tt_waits.specs.inside.Leading.{Leads}
use Rattle.tt_waits.specs.inside.Marks.{IsMarked}
use Rattle.tt_waits.proofs.closing.close.Given as goal

abbrev pub invariant-loop-stop : goal.invariant-loop-stop
invariant-loop-stop l = record {
  same_count : l.rows.count ≡ l.fn.rows.count;
  so_far : (i j : ℕ) → IsMarked l.rows i j ↔ Leads (IsMarked l.fn.rows) l.stop i j;
}
