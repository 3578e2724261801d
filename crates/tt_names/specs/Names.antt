-- What stands under names, in the order in which the names came (Tcl(n)). Names are compared by their bytes.
use Rattle.std.specs.Prelude.{◌≡◌, ℕ, bytes_eq, cond, List, Option, position}
use Rattle.std.specs.List.{IsDistinct}
use Rattle.std.specs.Map.{keys_of, lookup}
use Rattle.indexmap.specs.IndexMap.{insert_entry}

abbrev pub Name : Type 0
Name = List ℕ

-- what stands under a name, if anything does
abbrev pub under : {X : Type 0} → List (Name × X) → Name → Option X
under names name = lookup (bytes_eq name) names

-- which of the names it is, counted from 0
abbrev pub place_of : {X : Type 0} → List (Name × X) → Name → Option ℕ
place_of names name = position (bytes_eq name) (keys_of names)

-- a name gets an item: one that is there keeps its place, and a new one goes last
abbrev pub with_name : {X : Type 0} → List (Name × X) → Name → X → List (Name × X)
with_name names name item = insert_entry bytes_eq names name item

-- no name stands twice
abbrev pub NamesDiffer : {X : Type 0} → List (Name × X) → Type 0
NamesDiffer names = IsDistinct bytes_eq (keys_of names)

-- under one name stands this now, and under each other what stood there
abbrev pub Updates : {X : Type 0} → List (Name × X) → List (Name × X) → Name → Option X → Type 0
Updates old new name item = (other : Name) → under new other ≡ cond (bytes_eq name other) item (under old other)
