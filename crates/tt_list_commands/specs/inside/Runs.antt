-- Equals that stand together.
use Rattle.std.specs.Prelude.{ℕ, Bool, false, if◌then◌else◌, List, [], ◌∷◌}
use Rattle.std.specs.Ordering.{is_eq}
use Rattle.tt_list_commands.specs.Sorting.{order}
use Rattle.tt_list_commands.specs.declared.sorting.Sorting.{Sorting}

-- an item is equal to the first of those after it
abbrev pub equals_next : Sorting → (item : List ℕ) → (later : List (List ℕ)) → Bool
equals_next how item [] = false
equals_next how item (next ∷ later) = is_eq (order how item next)

-- of each run of equals the last item
abbrev pub last_in_runs : Sorting → List (List ℕ) → List (List ℕ)
last_in_runs how [] = []
last_in_runs how (item ∷ later) =
    if equals_next how item later then last_in_runs how later else item ∷ last_in_runs how later
