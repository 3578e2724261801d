-- The items of a list in order (lsort(n)).
use Rattle.std.specs.Prelude.{◌≡◌, ℕ, Bool, if◌then◌else◌, ℤ, pos, List, [], ◌∷◌, Option, Some, None, Ok, Err}
use Rattle.std.specs.Cmp.Lexicographic.{slice_cmp}
use Rattle.std.specs.List.{list_any}
use Rattle.std.specs.List.Sorted.{IsPermutation, IsSorted, IsStable}
use Rattle.std.specs.Ordering.{int_cmp, is_eq, nat_cmp}
use Rattle.std.specs.declared.cmp.Ordering.{Ordering}
use Rattle.tt_lists.specs.Messages.{list_message}
use Rattle.tt_lists.specs.Reading.{split_of}
use Rattle.tt_lists.specs.Spelling.{list_of}
use Rattle.tt_lists.specs.declared.answer.ListAnswer.{ListAnswer}
use Rattle.tt_lists.specs.declared.answer.ListAnswer.TheVariants.{Made, Bad}
use Rattle.tt_lists.specs.declared.items.Split.{Split}
use Rattle.tt_lists.specs.declared.items.Split.TheVariants as split
use Rattle.tt_number.specs.Messages.{number_message}
use Rattle.tt_number.specs.Numerals.{whole_of}
use Rattle.tt_list_commands.specs.declared.sorting.Sorting.{Sorting}

-- the whole number that an item spells; 0 if it spells none
abbrev pub number_of : List ℕ → ℤ
number_of item = elim (whole_of item) [ Ok number ↦ number | Err fault ↦ pos 0 ]

-- items are compared by their bytes, and with `-integer` by their numbers
abbrev pub increasing : Sorting → (a b : List ℕ) → Ordering
increasing how a b = if how.integer then int_cmp (number_of a) (number_of b) else slice_cmp nat_cmp a b

-- with `-decreasing` the other way round
abbrev pub order : Sorting → (a b : List ℕ) → Ordering
order how a b = if how.decreasing then increasing how b a else increasing how a b

-- the items in order: all of them and no others, none less than the one before it, and equals in the order that they
-- had
pub record IsInOrder (how : Sorting) (items sorted : List (List ℕ)) : Type 0 where
  pub permutation : IsPermutation items sorted
  pub ascends : IsSorted (order how) sorted
  pub stable : IsStable (order how) items sorted

-- an item is equal to one of those after it
abbrev pub equals_later : Sorting → (item : List ℕ) → (later : List (List ℕ)) → Bool
equals_later how item later = list_any (λ other. is_eq (order how item other)) later

-- of items that are equal, the last
abbrev pub last_of_equals : Sorting → List (List ℕ) → List (List ℕ)
last_of_equals how [] = []
last_of_equals how (item ∷ later) =
    if equals_later how item later then last_of_equals how later else item ∷ last_of_equals how later

-- what stays of items in order: with `-unique` the last of equals
abbrev pub sort_result : Sorting → List (List ℕ) → List (List ℕ)
sort_result how sorted = if how.unique then last_of_equals how sorted else sorted

-- why items are no numbers: that the first is none that isn't one
abbrev pub number_fault : List (List ℕ) → Option (List ℕ)
number_fault [] = None
number_fault (item ∷ items) =
    elim (whole_of item) [ Ok number ↦ number_fault items | Err fault ↦ Some (number_message fault item) ]

-- why items can't be compared
abbrev pub fault_of : Sorting → List (List ℕ) → Option (List ℕ)
fault_of how items = if how.integer then number_fault items else None

-- an answer is that of sorting items, with what is wrong with them
abbrev pub IsSortUnless : Option (List ℕ) → Sorting → List (List ℕ) → ListAnswer → Type 0
IsSortUnless (Some message) how items answer = answer ≡ Bad message
IsSortUnless None how items answer =
    (sorted : List (List ℕ)) × IsInOrder how items sorted × (answer ≡ Made (list_of (sort_result how sorted)))

-- an answer is that of sorting what a text was split into
abbrev pub IsSortIn : Sorting → Split → ListAnswer → Type 0
IsSortIn how (split.Items items) answer = IsSortUnless (fault_of how items) how items answer
IsSortIn how (split.Bad fault) answer = answer ≡ Bad (list_message fault)

-- an answer is that of sorting a list
abbrev pub IsSortAnswer : Sorting → (list : List ℕ) → ListAnswer → Type 0
IsSortAnswer how list answer = IsSortIn how (split_of list) answer
