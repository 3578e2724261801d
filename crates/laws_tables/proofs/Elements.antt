-- What commands on an element answer says why, if they refuse.
use Rattle.std.proofs.Common.{◌≡◌, ◌+◌, ℕ, ℤ, List, [], ◌∷◌, length, decimal, Option, Some, None, refl}
use Rattle.std.specs.Prelude.{Result, Ok, Err}
use Rattle.laws_tables.proofs.ArrayRows.{by_fault}
use Rattle.laws_tables.proofs.SaysWhy.{SaysWhy}
use Rattle.tt_lists.specs.Commands as lists
use Rattle.tt_lists.specs.Indices.{index_of}
use Rattle.tt_lists.specs.Messages.{bad_index_message, list_message}
use Rattle.tt_lists.specs.Places.{place_in}
use Rattle.tt_lists.specs.Parts.{item_in, range, with_items, with_replaced}
use Rattle.tt_lists.specs.Reading.{split_of}
use Rattle.tt_lists.specs.Searching.{reports_from, search_answer, search_result}
use Rattle.tt_lists.specs.Spelling.{list_of}
use Rattle.tt_lists.specs.declared.answer.ListAnswer.{ListAnswer}
use Rattle.tt_lists.specs.declared.answer.ListAnswer.TheVariants.{Made, Bad}
use Rattle.tt_lists.specs.declared.items.ListFault.{ListFault}
use Rattle.tt_lists.specs.declared.items.Split.{Split}
use Rattle.tt_lists.specs.declared.items.Split.TheVariants as split
use Rattle.tt_lists.specs.declared.place.Index.{Index}
use Rattle.tt_lists.specs.declared.searching.Search.{Search}
use Rattle.tt_number.specs.Messages.{arith_message, number_message}
use Rattle.tt_number.specs.Numerals.{whole_of}
use Rattle.tt_number.specs.Operators.{binary_of}
use Rattle.tt_number.specs.declared.numeral.NumberFault.{NumberFault}
use Rattle.tt_number.specs.declared.numeral.NumberFault.TheVariants.{NotWhole, TooLarge, Float}
use Rattle.tt_number.specs.declared.operators.ArithFault.{ArithFault}
use Rattle.tt_number.specs.declared.operators.ArithFault.TheVariants.{Overflow, DivideByZero, NegativeShift, ZeroPower}
use Rattle.tt_number.specs.declared.operators.NumOp.TheVariants.{Add}
use Rattle.tt_tsv.specs.Arrays.{Table}
use Rattle.tt_tsv.specs.Calls.{changes, list_reply}
use Rattle.tt_tsv.specs.Elements as elements

-- ---- commands on lists ----

abbrev pub Says : ListAnswer → Type 0
Says answer = SaysWhy (list_reply answer)

fault_said : (fault : ListFault) → Says (Bad (list_message fault))
fault_said fault = by_fault SaysWhy (λ b text. tt) fault

by_items : (answer : List (List ℕ) → ListAnswer) (found : Split) → ((items : List (List ℕ)) → Says (answer items)) → Says (lists.for_items answer found)
by_items answer (split.Items items) each = each items
by_items answer (split.Bad fault) each = fault_said fault

by_place : (word : List ℕ) (count : ℕ) (answer : ℤ → ListAnswer) → ((place : ℤ) → Says (answer place)) → Says (lists.for_place word count answer)
by_place word count answer each = go (index_of word)
  where
    go : (found : Option Index) → Says (elim found [ Some index ↦ answer (place_in index count) | None ↦ Bad (bad_index_message word) ])
    go None = tt
    go (Some index) = each (place_in index count)

pub counts : (value : List ℕ) → Says (lists.count_answer value)
counts value = by_items (λ items. Made (decimal (length items))) (split_of value) (λ items. tt)

item : (value word : List ℕ) → Says (lists.item_of value word)
item value word =
    by_items (λ items. lists.item_among items word) (split_of value)
    (λ items. by_place word (length items) (λ place. Made (item_in items place)) (λ place. tt))

pub items : (value : List ℕ) (words : List (List ℕ)) → Says (lists.item_answer value words)
items value [] = tt
items value (word ∷ words) = go (lists.item_of value word) (item value word) (λ text. items text words)
  where
    go : (made : ListAnswer) → Says made → ((text : List ℕ) → Says (lists.item_answer text words))
        → Says (lists.for_made (λ item. lists.item_answer item words) made)
    go (Made text) said later = later text
    go (Bad message) said later = said

pub ranges : (value first last : List ℕ) → Says (lists.range_answer value first last)
ranges value first last =
    by_items (λ items. lists.range_among items first last) (split_of value)
    (λ items. by_place first (length items) (λ from. lists.for_place last (length items) (λ to. Made (list_of (range items from to))))
    (λ from. by_place last (length items) (λ to. Made (list_of (range items from to))) (λ to. tt)))

pub inserts : (value word : List ℕ) (others : List (List ℕ)) → Says (lists.insert_answer value word others)
inserts value word others =
    by_items (λ items. lists.insert_among items word others) (split_of value)
    (λ items. by_place word (length items + 1) (λ place. Made (list_of (with_items items place others))) (λ place. tt))

pub replaces : (value first last : List ℕ) (others : List (List ℕ)) → Says (lists.replace_answer value first last others)
replaces value first last others =
    by_items (λ items. lists.replace_among items first last others) (split_of value)
    (λ items. by_place first (length items)
    (λ from. lists.for_place last (length items) (λ to. Made (list_of (with_replaced items from to others))))
    (λ from. by_place last (length items) (λ to. Made (list_of (with_replaced items from to others))) (λ to. tt)))

pub searches : (search : Search) (value pattern : List ℕ) → Says (search_answer search value pattern)
searches search value pattern =
    by_items (λ items. Made (search_result search (reports_from search pattern 0 items))) (split_of value) (λ items. tt)

-- ---- numbers ----

number_said : (fault : NumberFault) (text : List ℕ) → Says (Bad (number_message fault text))
number_said NotWhole text = tt
number_said TooLarge text = tt
number_said Float text = tt

arith_said : (fault : ArithFault) → Says (Bad (arith_message fault))
arith_said Overflow = tt
arith_said DivideByZero = tt
arith_said NegativeShift = tt
arith_said ZeroPower = tt

pub increment : (value step : List ℕ) → Says (elements.increment_of value step (whole_of value))
increment value step = go (whole_of value)
  where
    sum : (found : Result ℤ ArithFault) → Says (elements.sum_answer found)
    sum (Ok number) = tt
    sum (Err fault) = arith_said fault

    more : (number : ℤ) (read : Result ℤ NumberFault) → Says (elements.sum_with_step number step read)
    more number (Ok next) = sum (binary_of Add number next)
    more number (Err fault) = number_said fault step

    go : (read : Result ℤ NumberFault) → Says (elements.increment_of value step read)
    go (Ok number) = more number (whole_of step)
    go (Err fault) = number_said fault value

-- ---- changes of an element ----

module _ (table : Table) (array key : List ℕ) where
  pub puts : (answer : ListAnswer) → Says answer → SaysWhy (changes table array key (elements.puts answer)).reply
  puts (Made text) said = tt
  puts (Bad message) said = said

  pub pops : (value word : List ℕ) → SaysWhy (changes table array key (elements.pops_of (split_of value) word)).reply
  pops value word = go (split_of value)
    where
      at_place : (items : List (List ℕ)) (place : Option ℕ) → SaysWhy (changes table array key (elements.pops_at items place)).reply
      at_place items None = tt
      at_place items (Some n) = tt

      among : (items : List (List ℕ)) (found : Option Index) → index_of word ≡ found → SaysWhy (changes table array key (elements.pops_among items word)).reply
      among items None is = rw (is, elements.pops_among) tt
      among items (Some index) is = rw (is, elements.pops_among) (at_place items _)

      go : (found : Split) → SaysWhy (changes table array key (elements.pops_of found word)).reply
      go (split.Items items) = among items (index_of word) refl
      go (split.Bad fault) = fault_said fault

  pub increments : (value step : List ℕ) → SaysWhy (changes table array key (elements.puts (elements.increment_of value step (whole_of value)))).reply
  increments value step = puts (elements.increment_of value step (whole_of value)) (increment value step)

  pub insertions : (value word : List ℕ) (others : List (List ℕ))
      → SaysWhy (changes table array key (elements.puts (lists.insert_answer value word others))).reply
  insertions value word others = puts (lists.insert_answer value word others) (inserts value word others)

  pub replacements : (value first last : List ℕ) (others : List (List ℕ)) →
      SaysWhy (changes table array key (elements.puts (lists.replace_answer value first last others))).reply
  replacements value first last others = puts (lists.replace_answer value first last others) (replaces value first last others)
