-- What an order is of: the entries that were added to it.
use Rattle.std.specs.Prelude.{◌≡◌, ◌<◌, ℕ, List, [], ◌∷◌, Some, length, slice_index}
use Rattle.std.specs.List.{slice_get}
use Rattle.tt_before.specs.Known.{Knowledge, after_entry, nothing_known}
use Rattle.tt_before.specs.Orders.{links}
use Rattle.tt_before.specs.Steps.{Entry, Step, Stepped}
use Rattle.tt_before.specs.Touching.{touched}
use Rattle.tt_before.specs.declared.kept.Touch.{Touch}
use Rattle.tt_before.specs.declared.order.Order.{Order}
use Rattle.tt_before.specs.declared.touched.Touched.{Touched}
use Rattle.tt_before.specs.inside.Clocks.{AreClocks, AreLined, IsRowOf, rank}
use Rattle.tt_before.specs.inside.Kept.{clock_of}

-- what is known after some entries
abbrev pub after_all : Knowledge → List Entry → Knowledge
after_all known [] = known
after_all known (entry ∷ entries) = after_all (after_entry known entry) entries

-- a step that touches an array, as it is kept
pub record IsTouch (entries : List Entry) (touch : Touch) : Type 0 where
  pub step : Step
  pub stands : slice_get entries touch.place ≡ Some (Stepped step)
  pub by : step.thread ≡ touch.thread
  pub touches : touched step ≡ Some touch.touched
  pub ranked : touch.rank ≡ rank touch.thread (links entries) touch.place
  pub row : IsRowOf (links entries) touch.place (slice_index touch.row.items)

pub record IsKeptAt (touches : List Touch) (place : ℕ) : Type 0 where
  pub number : ℕ
  pub touch : Touch
  pub stands : slice_get touches number ≡ Some touch
  pub is_there : touch.place ≡ place

-- all of them are kept, in order
pub record AreTouches (entries : List Entry) (touches : List Touch) : Type 0 where
  pub each : (number : ℕ) (touch : Touch) → slice_get touches number ≡ Some touch → IsTouch entries touch
  pub in_order :
      (m n : ℕ) (one other : Touch) →
      slice_get touches m ≡ Some one →
      slice_get touches n ≡ Some other →
      m < n →
      one.place < other.place
  pub all :
      (place : ℕ) (step : Step) (one : Touched) →
      slice_get entries place ≡ Some (Stepped step) →
      touched step ≡ Some one →
      IsKeptAt touches place

-- an order is of these entries
pub record IsOrderOf (entries : List Entry) (order : Order) : Type 0 where
  pub counted : order.count ≡ length entries
  pub knows : order.known ≡ after_all nothing_known entries
  pub lined : AreLined (links entries)
  pub clocks : AreClocks (links entries) (clock_of order.clocks)
  pub touches : AreTouches entries order.touches.items
