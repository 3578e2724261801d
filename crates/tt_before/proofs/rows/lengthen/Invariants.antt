use Rattle.std.proofs.Common.{◌≡◌, ◌≤◌, ℕ, slice_index, vec_len}
use Rattle.tt_before.proofs.rows.lengthen.Given as goal

abbrev pub invariant-loop-have : goal.invariant-loop-have
invariant-loop-have l = record {
  same : (thread : ℕ) → slice_index l.row.items thread ≡ slice_index l.fn.row.items thread;
  long : l._have ≤ vec_len l.row;
}
