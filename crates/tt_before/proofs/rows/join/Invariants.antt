use Rattle.std.proofs.Common.{◌≤◌, vec_len, length}
use Rattle.tt_before.proofs.Joins.{IsJoinedUpTo}
use Rattle.tt_before.proofs.rows.join.Given as goal

abbrev pub invariant-loop-thread : goal.invariant-loop-thread
invariant-loop-thread l = record {
  long : length l.other ≤ vec_len l.row;
  done : IsJoinedUpTo l.thread l.row.items l.initial.row.items l.other;
}
