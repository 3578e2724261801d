use Rattle.std.specs.Prelude.{ℕ, Bool, List}

-- A schedule as contracts see it: the thread of each step in order, and whether one more step can be added without
-- taking memory.
pub record Listing : Type 0 where
  pub threads : List ℕ
  pub has_room : Bool
