-- Names of variables as commands are given them (Tcl(n), rule 8; set(n)).
use Rattle.std.specs.Prelude.{◌≡◌, ℕ, ◌+◌, ◌-◌, ◌==◌, ◌↔◌, List, [], ◌∷◌, ◌++◌, length, take, drop, slice_range, Option}
use Rattle.std.specs.Prelude.{Some, None, if◌then◌else◌, nat_eq, codes}
use Rattle.std.specs.List.{position_or_len, starts_with}
use Rattle.std.specs.Option.{option_map, unwrap_or}
use Rattle.tt_script.specs.Reading.{index_start}

-- a(b) names the element b of the array a: the index goes from the first `(` to a last `)`
pub record IsElementName (name array index : List ℕ) : Type 0 where
  pub spelled : name ≡ array ++ (40 ∷ (index ++ (41 ∷ [])))
  pub first : position_or_len (λ b. b == 40) array ≡ length array

-- the array and the index of such a name; any other names a variable as it stands
abbrev pub element_of : List ℕ → Option (List ℕ × List ℕ)
element_of name =
    option_map (λ start. (take start name, slice_range name (start + 1) (length name - 1))) (index_start name)

-- a name is split exactly if it is an element's, and so
abbrev pub ElementNameLaw : Type 0
ElementNameLaw = (name array index : List ℕ) → (element_of name ≡ Some (array, index)) ↔ IsElementName name array index

-- what a name with a leading `::` names in the whole program: the rest, after one such pair
abbrev pub global_of : List ℕ → Option (List ℕ)
global_of name = if starts_with nat_eq name (codes "::") then Some (drop 2 name) else None

-- the name of a command or a procedure, without one leading `::`
abbrev pub plain_name : (name : List ℕ) → List ℕ
plain_name name = unwrap_or (global_of name) name
