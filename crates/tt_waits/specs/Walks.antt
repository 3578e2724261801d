-- Which threads are caught in a circle of waiting.
use Rattle.std.specs.Prelude.{ℕ, List, ◌↔◌}
use Rattle.std.specs.List.{Contains}
use Rattle.std.specs.List.Sorted.{IsStrictlyIncreasing}
use Rattle.tt_waits.specs.declared.circles.Edge.{Edge}

-- one thread waits for another, or for itself
abbrev pub edge : ℕ → ℕ → Edge
edge from to = record { from = from; to = to }

-- a thread waits for another through one edge or more
pub data Walks (edges : List Edge) : ℕ → ℕ → Type 0 where
  one_edge : {from to : ℕ} → Contains edges (edge from to) → Walks edges from to
  one_more : {from stop to : ℕ} → Contains edges (edge from stop) → Walks edges stop to → Walks edges from to

-- a thread waits for itself through one edge or more
abbrev pub IsCaught : List Edge → ℕ → Type 0
IsCaught edges thread = Walks edges thread thread

-- a list has exactly the caught threads, by number, each once
pub record AreTheCaught (edges : List Edge) (threads : List ℕ) : Type 0 where
  pub by_number : IsStrictlyIncreasing threads
  pub exactly : (thread : ℕ) → Contains threads thread ↔ IsCaught edges thread
