-- The clocks as they are kept: a row of numbers for each object that was released.
use Rattle.std.specs.Prelude.{ℕ, Bool, Option, Some, None, Vec, slice_index}
use Rattle.std.specs.HashMap.{get}
use Rattle.tt_before.specs.contracts.object.ObjectPartialEq.TheImpl as same
use Rattle.tt_before.specs.declared.clocks.Clocks.{Clocks}
use Rattle.tt_before.specs.declared.object.Object.{Object}

abbrev pub row_in : {A : Type 0} → Option (Vec ℕ A) → (thread : ℕ) → ℕ
row_in None = λ thread. 0
row_in (Some row) = slice_index row.items

-- the test of objects for equality
abbrev pub is_same : Object → Object → Bool
is_same = same.eq-value.it

-- what the clock of an object has at a thread
abbrev pub clock_of : Clocks → Object → (thread : ℕ) → ℕ
clock_of clocks object = row_in (get is_same clocks.rows object)
