-- What holds of caught threads.
use Rattle.std.specs.Prelude.{◌≡◌, ℕ, List, [], ◌↔◌}
use Rattle.std.specs.List.{Contains}
use Rattle.tt_waits.specs.Walks.{AreTheCaught, IsCaught, edge}
use Rattle.tt_waits.specs.declared.circles.Edge.{Edge}

-- a thread waits for one that is caught
pub record WaitsForCaught (edges : List Edge) (thread : ℕ) : Type 0 where
  pub other : ℕ
  pub waits : Contains edges (edge thread other)
  pub caught : IsCaught edges other

-- each caught thread waits for one that is caught
abbrev pub CircleLaw : Type 0
CircleLaw = (edges : List Edge) (thread : ℕ) → IsCaught edges thread → WaitsForCaught edges thread

-- the list is empty exactly if no thread is caught
abbrev pub NoCircleLaw : Type 0
NoCircleLaw =
    (edges : List Edge) (threads : List ℕ) →
    AreTheCaught edges threads →
    (threads ≡ []) ↔ ((thread : ℕ) → IsCaught edges thread → ⊥)

-- there is one such list
abbrev pub OneListLaw : Type 0
OneListLaw =
    (edges : List Edge) (one other : List ℕ) →
    AreTheCaught edges one →
    AreTheCaught edges other →
    one ≡ other
