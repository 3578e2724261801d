-- What is so of each row of a table is so of the one that is found.
use Rattle.std.proofs.Common.{Bool, true, false, cond, List, [], ◌∷◌, Option, Some, None}
use Rattle.std.specs.List.{find}

pub data Each {C : Type 0} (P : C → Type 0) : List C → Type 0 where
  no_more : Each P []
  row : {c : C} {cs : List C} → P c → Each P cs → Each P (c ∷ cs)

pub found_row : {C : Type 0} (P : Option C → Type 0) (Q : C → Type 0) (test : C → Bool) (cs : List C) → P None → ((c : C) → Q c → P (Some c))
    → Each Q cs → P (find test cs)
found_row P Q test [] none some no_more = none
found_row P Q test (c ∷ cs) none some (row one more) = by (test c) (found_row P Q test cs none some more)
  where
    by : (b : Bool) → P (find test cs) → P (cond b (Some c) (find test cs))
    by true rest = some c one
    by false rest = rest

-- what is so of both is so of the one that is chosen
pub chosen : {A : Type 0} (P : A → Type 0) (b : Bool) {x y : A} → P x → P y → P (cond b x y)
chosen P true one other = one
chosen P false one other = other
