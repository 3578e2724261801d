-- Dictionaries: pairs of a key and a value, in order (dict(n)). Keys are compared by their bytes.
use Rattle.std.specs.Prelude.{ℕ, bytes_eq, List, [], ◌∷◌, Option}
use Rattle.std.specs.List.{flat_map}
use Rattle.std.specs.Map.{lookup, remove_entry}
use Rattle.indexmap.specs.IndexMap.{insert_all, insert_entry}
use Rattle.tt_lists.specs.Spelling.{list_of}

-- a key stands once
abbrev pub Pairs : Type 0
Pairs = List (List ℕ × List ℕ)

-- a key gets a value: one that is there keeps its place, and a new one goes last
abbrev pub with_pair : Pairs → (key value : List ℕ) → Pairs
with_pair pairs key value = insert_entry bytes_eq pairs key value

-- the pair of a key is taken out, if there is one
abbrev pub without_key : Pairs → (key : List ℕ) → Pairs
without_key pairs key = remove_entry (bytes_eq key) pairs

-- the value of a key
abbrev pub value_of : Pairs → (key : List ℕ) → Option (List ℕ)
value_of pairs key = lookup (bytes_eq key) pairs

-- the pairs of another are put in, one after the other
abbrev pub joined_pairs : (pairs more : Pairs) → Pairs
joined_pairs pairs more = insert_all bytes_eq pairs more

-- each key, followed by its value
abbrev pub items_of : Pairs → List (List ℕ)
items_of pairs = flat_map (λ pair. pair.0 ∷ pair.1 ∷ []) pairs

-- the one canonical text: that of the list
abbrev pub text_of : Pairs → List ℕ
text_of pairs = list_of (items_of pairs)
