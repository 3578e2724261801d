-- What it is to divide and round down, by expr(n), OPERATORS: `/` and `%`.
use Rattle.std.specs.Prelude.{◌≡◌, ◌≢◌, ◌⊎◌, ℤ, pos, ◌+ℤ◌, ◌*ℤ◌, ◌≤ℤ◌, ◌<ℤ◌}
use Rattle.tt_number.specs.Operators.{quotient_down, remainder_down}

-- a is q times d and r more, if r lies from 0 on towards d, and before d
pub record DividesDown (a d q r : ℤ) : Type 0 where
  pub whole : q *ℤ d +ℤ r ≡ a
  pub between : ((pos 0 ≤ℤ r) × (r <ℤ d)) ⊎ ((d <ℤ r) × (r ≤ℤ pos 0))

-- the operators divide so, by any divisor but 0
abbrev pub DivisionRoundsDown : Type 0
DivisionRoundsDown = (a d : ℤ) → d ≢ pos 0 → DividesDown a d (quotient_down a d) (remainder_down a d)
