-- The shared arrays (tsv(n)).
use Rattle.std.specs.Prelude.{◌+◌, ◌-◌, ℕ, Bool, true, false, ◌==◌, nat_le, bytes_eq, List, [], ◌∷◌, Option, Some, None}
use Rattle.std.specs.Prelude.{if◌then◌else◌}
use Rattle.std.specs.Map.{lookup, remove_entry, set_value}
use Rattle.indexmap.specs.IndexMap.{insert_entry}
use Rattle.tt_tsv.specs.declared.array.Array.{Array}

-- the elements of an array in the order of their first insertion, each a value under its key
abbrev pub Pairs : Type 0
Pairs = List (List ℕ × List ℕ)

-- the arrays in the order in which they were made, each under its name
abbrev pub Table : Type 0
Table = List (List ℕ × Array)

abbrev pub new_array : Array
new_array = record { elements = []; holder = None; depth = 0 }

abbrev pub array_of : Table → (name : List ℕ) → Option Array
array_of table name = lookup (bytes_eq name) table

abbrev pub without_array : Table → (name : List ℕ) → Table
without_array table name = remove_entry (bytes_eq name) table

-- an array that is there is changed in its place
abbrev pub changes_in : (Array → Array) → Table → (name : List ℕ) → Option Array → Table
changes_in change table name None = table
changes_in change table name (Some array) = set_value (bytes_eq name) table (change array)

abbrev pub table_with_change : (Array → Array) → Table → (name : List ℕ) → Table
table_with_change change table name = changes_in change table name (array_of table name)

-- an array is changed in its place; a missing one is made first, and goes last
abbrev pub makes_in : (Array → Array) → Table → (name : List ℕ) → Option Array → Table
makes_in change table name None = insert_entry bytes_eq table name (change new_array)
makes_in change table name (Some array) = set_value (bytes_eq name) table (change array)

abbrev pub with_array : (Array → Array) → Table → (name : List ℕ) → Table
with_array change table name = makes_in change table name (array_of table name)

-- ---- elements ----

abbrev pub with_elements : Array → Pairs → Array
with_elements array elements = record array { elements = elements }

-- a missing array has none
abbrev pub elements_in : Option Array → Pairs
elements_in None = []
elements_in (Some array) = array.elements

abbrev pub elements_of : Table → (name : List ℕ) → Pairs
elements_of table name = elements_in (array_of table name)

abbrev pub element_of : Table → (name key : List ℕ) → Option (List ℕ)
element_of table name key = lookup (bytes_eq key) (elements_of table name)

-- an element that is there keeps its place, and a new one goes last
abbrev pub with_element : (key value : List ℕ) → Array → Array
with_element key value array = with_elements array (insert_entry bytes_eq array.elements key value)

abbrev pub without_element : (key : List ℕ) → Array → Array
without_element key array = with_elements array (remove_entry (bytes_eq key) array.elements)

-- elements and those of a list of keys and values, put in one after the other
abbrev pub pairs_with_items : Pairs → (items : List (List ℕ)) → Pairs
pairs_with_items elements [] = elements
pairs_with_items elements (key ∷ []) = elements
pairs_with_items elements (key ∷ value ∷ items) = pairs_with_items (insert_entry bytes_eq elements key value) items

abbrev pub array_with_items : (items : List (List ℕ)) → Array → Array
array_with_items items array = with_elements array (pairs_with_items array.elements items)

-- no elements any more
abbrev pub array_without_elements : Array → Array
array_without_elements array = with_elements array []

-- ---- holds (tsv(n), tsv::lock) ----

abbrev pub is_held : Array → Bool
is_held array = elim array.holder [ None ↦ false | Some holder ↦ true ]

abbrev pub is_held_by : ℕ → Array → Bool
is_held_by t array = elim array.holder [ None ↦ false | Some holder ↦ holder == t ]

-- one hold more, by a thread
abbrev pub array_with_hold : ℕ → Array → Array
array_with_hold t array = record array { holder = Some t; depth = array.depth + 1 }

-- one hold less, after the last of which nobody holds it
abbrev pub array_without_hold : Array → Array
array_without_hold array =
    if nat_le array.depth 1
    then record array { holder = None; depth = 0 }
    else record array { depth = array.depth - 1 }
