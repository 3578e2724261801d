-- What stands in a list under the numbers of threads, which count from 1 (thread(n)).
use Rattle.std.specs.Prelude.{ℕ, ◌-◌, ◌==◌, List, Option, None, slice_get, slice_set, if◌then◌else◌}

-- what stands under a number: nothing under 0, else what is in the place before it
abbrev pub at_number : {X : Type 0} → List X → (number : ℕ) → Option X
at_number list number = if number == 0 then None else slice_get list (number - 1)

-- the list with something else under that number
abbrev pub with_at : {X : Type 0} → List X → (number : ℕ) → X → List X
with_at list number x = slice_set list (number - 1) x
