-- Threads that wait, and whom they wait for.
use Rattle.std.specs.Prelude.{ℕ, List, map}
use Rattle.std.specs.List.{flat_map}
use Rattle.tt_waits.specs.Walks.{edge}
use Rattle.tt_waits.specs.declared.circles.Edge.{Edge}

-- a thread that waits, and the threads that it waits for, by number
pub record Waiting : Type 0 where
  pub thread : ℕ
  pub others : List ℕ

-- an edge from the thread to each of these
abbrev pub edges_from : Waiting → List Edge
edges_from one = map (edge one.thread) one.others

abbrev pub edges_of : List Waiting → List Edge
edges_of waiting = flat_map edges_from waiting
