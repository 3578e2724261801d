-- The places of threads: words of the code's own contracts.
use Rattle.std.specs.Prelude.{◌≡◌, ◌<◌, ℕ, List, length, slice_index, ◌↔◌}
use Rattle.std.specs.List.{Contains}
use Rattle.std.specs.List.Sorted.{IsStrictlyIncreasing}
use Rattle.tt_waits.specs.declared.circles.Edge.{Edge}
use Rattle.tt_waits.specs.declared.rows.Rows.{Rows}
use Rattle.tt_waits.specs.inside.Marks.{IsMarked}

-- the thread stands at the place
pub record IsPlaceOf (threads : List ℕ) (thread place : ℕ) : Type 0 where
  pub within : place < length threads
  pub stands : slice_index threads place ≡ thread

-- an edge is one between the threads at two places
pub record Joins (threads : List ℕ) (one : Edge) (from to : ℕ) : Type 0 where
  pub from_place : IsPlaceOf threads one.from from
  pub to_place : IsPlaceOf threads one.to to

-- one of the edges is between the threads at two places
pub record IsJoined (threads : List ℕ) (edges : List Edge) (from to : ℕ) : Type 0 where
  pub one : Edge
  pub given : Contains edges one
  pub joins : Joins threads one from to

-- a thread stands at one of the first places, and this place is marked at itself
pub record IsOnDiagonal (threads : List ℕ) (rows : Rows) (first thread : ℕ) : Type 0 where
  pub place : ℕ
  pub is_first : place < first
  pub stands : slice_index threads place ≡ thread
  pub marked : IsMarked rows place place

-- a list has the threads whose places are marked at themselves, among the first places
pub record AreOnDiagonal (threads : List ℕ) (rows : Rows) (first : ℕ) (found : List ℕ) : Type 0 where
  pub by_number : IsStrictlyIncreasing found
  pub exactly : (thread : ℕ) → Contains found thread ↔ IsOnDiagonal threads rows first thread
