-- The elements of an array in slots, of which some are gaps that elements left.
use Rattle.std.specs.Prelude.{◌≡◌, ◌↔◌, ℕ, List, [], ◌∷◌, Option, None, Some, slice_index_or, slice_set, bytes_eq}
use Rattle.indexmap.specs.IndexMap.{insert_entry}

-- pairs of an index and a text
abbrev pub Elements : Type 0
Elements = List (List ℕ × List ℕ)

-- an element, or a gap
abbrev pub Slot : Type 0
Slot = Option (List ℕ × List ℕ)

-- the elements that are there, in the order of their slots
abbrev pub elements_in : List Slot → Elements
elements_in [] = []
elements_in (None ∷ slots) = elements_in slots
elements_in (Some element ∷ slots) = element ∷ elements_in slots

-- the slot at a place; past the last one a gap
abbrev pub slot_at : List Slot → ℕ → Slot
slot_at slots place = slice_index_or slots place None

-- the index of an element
abbrev pub index_in : Slot → Option (List ℕ)
index_in None = None
index_in (Some element) = Some element.0

-- its text
abbrev pub text_in : Slot → Option (List ℕ)
text_in None = None
text_in (Some element) = Some element.1

-- the slot with another text, if it is no gap
abbrev pub put_in : Slot → List ℕ → Slot
put_in None text = None
put_in (Some element) text = Some (element.0, text)

abbrev pub put_at : List Slot → ℕ → List ℕ → List Slot
put_at slots place text = slice_set slots place (put_in (slot_at slots place) text)

-- where an index is said to stand is the slot of its element, and no other
abbrev pub ArePlaces : (List ℕ → Option ℕ) → List Slot → Type 0
ArePlaces place slots = (index : List ℕ) (at : ℕ) → (place index ≡ Some at) ↔ (index_in (slot_at slots at) ≡ Some index)

-- no two slots have one index
abbrev pub Differ : List Slot → Type 0
Differ slots =
    (index : List ℕ) (one two : ℕ) →
    index_in (slot_at slots one) ≡ Some index →
    index_in (slot_at slots two) ≡ Some index →
    one ≡ two

-- elements with that of a slot, if it is no gap: in its place, or last
abbrev pub with_slot : Slot → Elements → Elements
with_slot None elements = elements
with_slot (Some element) elements = insert_entry bytes_eq elements element.0 element.1
