-- Walks between places: a word of the code's own contracts.
use Rattle.std.specs.Prelude.{◌<◌, ℕ}

-- a walk over marks whose inner stops are among the first places
pub data Leads (Mark : ℕ → ℕ → Type 0) (first : ℕ) : ℕ → ℕ → Type 0 where
  straight : {from to : ℕ} → Mark from to → Leads Mark first from to
  over : {from stop to : ℕ} → Mark from stop → stop < first → Leads Mark first stop to → Leads Mark first from to
