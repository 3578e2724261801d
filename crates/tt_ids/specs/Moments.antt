-- Moments of a run in milliseconds, as schedules write them.
use Rattle.std.specs.Prelude.{ℕ, ◌≤◌}

-- the greatest moment, 2^62
abbrev pub greatest_moment : ℕ
greatest_moment = 4611686018427387904

-- they are counted from 1
abbrev pub IsMoment : ℕ → Type 0
IsMoment moment = (1 ≤ moment) × (moment ≤ greatest_moment)
