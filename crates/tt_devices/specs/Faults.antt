use Rattle.std.specs.Prelude.{ℕ, ◌<◌, ◌≤◌}

-- the greatest count that a device can keep
abbrev pub greatest_count : ℕ
greatest_count = 18446744073709551615

-- a count of faults rose, or stands at its greatest
pub record Rises (old new : ℕ) : Type 0 where
  pub not_below : old ≤ new
  pub above : old < greatest_count → old < new
