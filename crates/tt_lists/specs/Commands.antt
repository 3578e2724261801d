-- What list commands answer (llength(n), lindex(n), lrange(n), linsert(n), lreplace(n)). The list is read first, then
-- the indices from the left; the first that can't be read is the error.
use Rattle.std.specs.Prelude.{ℕ, ◌+◌, ℤ, List, [], ◌∷◌, length, decimal, Result, Ok, Err, Some, None}
use Rattle.tt_lists.specs.Indices.{index_of}
use Rattle.tt_lists.specs.Messages.{bad_index_message, list_message}
use Rattle.tt_lists.specs.Parts.{item_in, range, with_items, with_replaced}
use Rattle.tt_lists.specs.Places.{place_in}
use Rattle.tt_lists.specs.Reading.{split_of}
use Rattle.tt_lists.specs.Spelling.{list_of}
use Rattle.tt_lists.specs.declared.answer.ListAnswer.{ListAnswer}
use Rattle.tt_lists.specs.declared.answer.ListAnswer.TheVariants.{Made, Bad}
use Rattle.tt_lists.specs.declared.items.Split.{Split}
use Rattle.tt_lists.specs.declared.items.Split.TheVariants as split

-- the answer for the items of a text, if it lists some
abbrev pub for_items : (List (List ℕ) → ListAnswer) → Split → ListAnswer
for_items answer (split.Items items) = answer items
for_items answer (split.Bad fault) = Bad (list_message fault)

-- the answer for a text that was made
abbrev pub for_made : (List ℕ → ListAnswer) → ListAnswer → ListAnswer
for_made answer (Made text) = answer text
for_made answer (Bad message) = Bad message

-- the answer that lists the items that were made, or says why there are none
abbrev pub list_or_message : Result (List (List ℕ)) (List ℕ) → ListAnswer
list_or_message (Ok items) = Made (list_of items)
list_or_message (Err message) = Bad message

-- the answer for the place that a word names in a list of so many items, where it names one
abbrev pub for_place : List ℕ → ℕ → (ℤ → ListAnswer) → ListAnswer
for_place word count answer =
    elim (index_of word) [
      | Some index ↦ answer (place_in index count)
      | None ↦ Bad (bad_index_message word)
    ]

-- how many items the list has (llength(n))
abbrev pub count_answer : List ℕ → ListAnswer
count_answer list = for_items (λ items. Made (decimal (length items))) (split_of list)

-- of items the one that an index names
abbrev pub item_among : List (List ℕ) → (word : List ℕ) → ListAnswer
item_among items word = for_place word (length items) (λ place. Made (item_in items place))

-- the same of a list
abbrev pub item_of : (list word : List ℕ) → ListAnswer
item_of list word = for_items (λ items. item_among items word) (split_of list)

-- the item that indices name, each in the item that those before it named; without indices the text as it is
-- (lindex(n))
abbrev pub item_answer : List ℕ → (words : List (List ℕ)) → ListAnswer
item_answer text [] = Made text
item_answer text (word ∷ words) = for_made (λ item. item_answer item words) (item_of text word)

-- of items, those from the first index up to the last one
abbrev pub range_among : List (List ℕ) → (first last : List ℕ) → ListAnswer
range_among items first last =
    for_place first (length items) (λ from. for_place last (length items) (λ to. Made (list_of (range items from to))))

-- the same of a list (lrange(n))
abbrev pub range_answer : (list first last : List ℕ) → ListAnswer
range_answer list first last = for_items (λ items. range_among items first last) (split_of list)

-- items with others before the one at the index, if `end` is the place after the last item
abbrev pub insert_among : List (List ℕ) → (word : List ℕ) → (others : List (List ℕ)) → ListAnswer
insert_among items word others =
    for_place word (length items + 1) (λ place. Made (list_of (with_items items place others)))

-- the same of a list (linsert(n))
abbrev pub insert_answer : (list word : List ℕ) → (others : List (List ℕ)) → ListAnswer
insert_answer list word others = for_items (λ items. insert_among items word others) (split_of list)

-- items with others in place of those from the first index up to the last one
abbrev pub replace_among : List (List ℕ) → (first last : List ℕ) → (others : List (List ℕ)) → ListAnswer
replace_among items first last others =
    for_place first (length items) (λ from.
    for_place last (length items) (λ to. Made (list_of (with_replaced items from to others))))

-- the same of a list (lreplace(n))
abbrev pub replace_answer : (list first last : List ℕ) → (others : List (List ℕ)) → ListAnswer
replace_answer list first last others = for_items (λ items. replace_among items first last others) (split_of list)
