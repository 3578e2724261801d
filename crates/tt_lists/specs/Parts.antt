-- Parts of a list, and items put into it (lindex(n), lrange(n), linsert(n), lreplace(n)). Places are counted from 0;
-- one may lie before the first item or after the last.
use Rattle.std.specs.Prelude.{ℕ, suc, if◌then◌else◌, ℤ, pos, negsuc, int_lt, List, [], ◌++◌, take, drop, slice_index_or}

-- the item at a place; outside the list the empty one
abbrev pub item_in : List (List ℕ) → ℤ → List ℕ
item_in items (pos n) = slice_index_or items n []
item_in items (negsuc n) = []

-- the items before a place
abbrev pub before : List (List ℕ) → ℤ → List (List ℕ)
before items (pos n) = take n items
before items (negsuc n) = []

-- the item at a place, and those after it
abbrev pub from : List (List ℕ) → ℤ → List (List ℕ)
from items (pos n) = drop n items
from items (negsuc n) = items

-- the item at a place, and those before it
abbrev pub up_to : List (List ℕ) → ℤ → List (List ℕ)
up_to items (pos n) = take (suc n) items
up_to items (negsuc n) = []

-- the items after a place
abbrev pub after : List (List ℕ) → ℤ → List (List ℕ)
after items (pos n) = drop 1 (from items (pos n))
after items (negsuc n) = items

-- the items from a first place up to a last one (lrange(n))
abbrev pub range : List (List ℕ) → (first last : ℤ) → List (List ℕ)
range items first last = from (up_to items last) first

-- with others put before the item at a place (linsert(n))
abbrev pub with_items : List (List ℕ) → ℤ → List (List ℕ) → List (List ℕ)
with_items items place others = before items place ++ (others ++ from items place)

-- with others in place of the items from a first place up to a last one; if the last is before the first, none of
-- the items goes (lreplace(n))
abbrev pub with_replaced : List (List ℕ) → (first last : ℤ) → List (List ℕ) → List (List ℕ)
with_replaced items first last others =
    before items first ++ (others ++ (if int_lt last first then from items first else after items last))
