-- What is kept of a step that touches an array.
use Rattle.std.specs.Prelude.{ℕ, List, [], ◌∷◌, Option, Some, None}
use Rattle.tt_before.specs.declared.clocks.Told.{Told}
use Rattle.tt_before.specs.declared.kept.Touch.{Touch}
use Rattle.tt_before.specs.declared.touched.Touched.{Touched}

abbrev pub touches_made : (place thread : ℕ) → Told → Option Touched → List Touch
touches_made place thread told None = []
touches_made place thread told (Some touched) =
    record { place = place; thread = thread; rank = told.rank; row = told.row; touched = touched } ∷ []
