use Rattle.std.proofs.Common.{◌≡◌, ◌-◌, ◌≤◌, [], length, replicate, slice_get, Some, None, vec_capacity, ℕ}
use Rattle.std.specs.List.{enumerate_from}
use Rattle.tt_noted.specs.inside.Rule.{view}
use Rattle.tt_noted.specs.Passes.{IsFresh}
use Rattle.tt_noted.proofs.noted.Noted.deal.Given as goal

abbrev pub invariant-loop-k : goal.invariant-loop-k
invariant-loop-k g l =
    (l.seat.table_id ≡ l.self.table.shared.table_id) × (l.seat.me ≡ (view l.n (enumerate_from l.k (replicate (l.n - l.k) l.note)) None, []))
    × (l.n ≤ vec_capacity l.passes) × (length l.passes.items ≡ l.k)
    × ((i : ℕ) (p : _) → slice_get l.passes.items i ≡ Some p → IsFresh l.self l.note i p)
