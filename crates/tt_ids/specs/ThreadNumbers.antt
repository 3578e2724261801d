-- Numbers of threads, as ids and schedules write them.
use Rattle.std.specs.Prelude.{ℕ, ◌≤◌}

-- the greatest number
abbrev pub greatest_number : ℕ
greatest_number = 16777216

-- they are counted from 1
abbrev pub IsInRange : ℕ → Type 0
IsInRange n = (1 ≤ n) × (n ≤ greatest_number)
