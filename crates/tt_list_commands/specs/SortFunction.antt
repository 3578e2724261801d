-- Sorting as a function (lsort(n)): so a sorted list is one, and evaluation can compute it.
use Rattle.std.specs.Prelude.{◌≡◌, ℕ, if◌then◌else◌, List, [], ◌∷◌, Option, Some, None}
use Rattle.std.specs.Ordering.{is_lt}
use Rattle.std.specs.declared.cmp.Ordering.{Ordering}
use Rattle.tt_list_commands.specs.Sorting.{IsSortAnswer, fault_of, sort_result, order}
use Rattle.tt_list_commands.specs.declared.sorting.Sorting.{Sorting}
use Rattle.tt_lists.specs.Messages.{list_message}
use Rattle.tt_lists.specs.Reading.{split_of}
use Rattle.tt_lists.specs.Spelling.{list_of}
use Rattle.tt_lists.specs.declared.answer.ListAnswer.{ListAnswer}
use Rattle.tt_lists.specs.declared.answer.ListAnswer.TheVariants.{Made, Bad}
use Rattle.tt_lists.specs.declared.items.Split.{Split}
use Rattle.tt_lists.specs.declared.items.Split.TheVariants as split

-- an item goes before the first of the sorted later ones that isn't less than it
abbrev pub with_item : {X : Type 0} → (X → X → Ordering) → X → (later : List X) → List X
with_item cmp item [] = item ∷ []
with_item cmp item (other ∷ later) =
    if is_lt (cmp other item) then other ∷ with_item cmp item later else item ∷ other ∷ later

-- the items in order
abbrev pub in_order : {X : Type 0} → (X → X → Ordering) → List X → List X
in_order cmp [] = []
in_order cmp (item ∷ later) = with_item cmp item (in_order cmp later)

-- the answer of sorting a list
abbrev pub sort_unless : Option (List ℕ) → Sorting → (items : List (List ℕ)) → ListAnswer
sort_unless (Some message) how items = Bad message
sort_unless None how items = Made (list_of (sort_result how (in_order (order how) items)))

abbrev pub sort_in : Sorting → Split → ListAnswer
sort_in how (split.Items items) = sort_unless (fault_of how items) how items
sort_in how (split.Bad fault) = Bad (list_message fault)

abbrev pub sort_answer : Sorting → (list : List ℕ) → ListAnswer
sort_answer how list = sort_in how (split_of list)

-- an answer of sorting is that one
abbrev pub SortLaw : Type 0
SortLaw =
    (how : Sorting) (list : List ℕ) (answer : ListAnswer) →
    IsSortAnswer how list answer →
    answer ≡ sort_answer how list
