-- How marks are kept in bits: words of the code's own contracts.
use Rattle.std.specs.Prelude.{◌≡◌, ◌<◌, ◌+◌, ◌*◌, ◌/◌, ◌%◌, ℕ, slice_index}
use Rattle.std.specs.Int.{bit_at}
use Rattle.tt_waits.specs.declared.rows.Rows.{Rows}

-- the bit of one place at another
abbrev pub mark_bit : Rows → ℕ → ℕ → ℕ
mark_bit rows from to = bit_at (slice_index rows.words.items (from * rows.width + to / 64)) (to % 64)

-- both are places, and the one is marked at the other
pub record IsMarked (rows : Rows) (from to : ℕ) : Type 0 where
  pub from_within : from < rows.count
  pub to_within : to < rows.count
  pub marked : mark_bit rows from to ≡ 1
