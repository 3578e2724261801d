-- What commands do to an element (tsv(n)): by its value and the words after its key. Words of another number than the
-- usage has are none that a command asks.
use Rattle.std.specs.Prelude.{ℕ, nat_lt, ℤ, pos, negsuc, remove, slice_index_or, List, [], ◌∷◌, ◌++◌, length, codes}
use Rattle.std.specs.Prelude.{Option, Some, None, Result, Ok, Err, false, if◌then◌else◌}
use Rattle.std.specs.Fmt.{signed_decimal}
use Rattle.std.specs.List.{flat_map}
use Rattle.tt_lists.specs.Commands.{count_answer, insert_answer, item_answer, range_answer, replace_answer}
use Rattle.tt_lists.specs.Indices.{index_of}
use Rattle.tt_lists.specs.Messages.{bad_index_message, list_message}
use Rattle.tt_lists.specs.Places.{place_in}
use Rattle.tt_lists.specs.Reading.{split_of}
use Rattle.tt_lists.specs.Searching.{search_answer}
use Rattle.tt_lists.specs.Spelling.{list_of}
use Rattle.tt_lists.specs.declared.answer.ListAnswer.{ListAnswer}
use Rattle.tt_lists.specs.declared.answer.ListAnswer.TheVariants.{Made, Bad}
use Rattle.tt_lists.specs.declared.items.Split.{Split}
use Rattle.tt_lists.specs.declared.items.Split.TheVariants as split
use Rattle.tt_lists.specs.declared.searching.Matching.{Matching}
use Rattle.tt_lists.specs.declared.searching.Matching.TheVariants.{Glob}
use Rattle.tt_lists.specs.declared.searching.Search.{Search}
use Rattle.tt_number.specs.Messages.{arith_message, number_message}
use Rattle.tt_number.specs.Numerals.{whole_of}
use Rattle.tt_number.specs.Operators.{binary_of}
use Rattle.tt_number.specs.declared.numeral.NumberFault.{NumberFault}
use Rattle.tt_number.specs.declared.operators.ArithFault.{ArithFault}
use Rattle.tt_number.specs.declared.operators.NumOp.TheVariants.{Add}
use Rattle.tt_tsv.specs.Words.{matching_of}
use Rattle.tt_tsv.specs.declared.change.Change.{Change}
use Rattle.tt_tsv.specs.declared.change.Change.TheVariants.{Kept, Put, Removed}
use Rattle.tt_tsv.specs.declared.usage.ElementUsage.{ElementUsage}
use Rattle.tt_tsv.specs.declared.usage.ElementUsage.TheVariants as element

-- words that no command asks
abbrev pub not_asked : Change
not_asked = Kept (Bad [])

-- what was made is the element's value then, and is answered
abbrev pub puts : ListAnswer → Change
puts (Made text) = Put text text
puts (Bad message) = Kept (Bad message)

-- tsv::set a k v
abbrev pub sets : (words : List (List ℕ)) → Change
sets (value ∷ []) = Put value value
sets words = not_asked

-- tsv::incr: by 1, or by n; the value is read before n
abbrev pub sum_answer : Result ℤ ArithFault → ListAnswer
sum_answer (Ok sum) = Made (signed_decimal sum)
sum_answer (Err fault) = Bad (arith_message fault)

abbrev pub sum_with_step : ℤ → (step : List ℕ) → Result ℤ NumberFault → ListAnswer
sum_with_step number step (Err fault) = Bad (number_message fault step)
sum_with_step number step (Ok more) = sum_answer (binary_of Add number more)

abbrev pub increment_of : (value step : List ℕ) → Result ℤ NumberFault → ListAnswer
increment_of value step (Err fault) = Bad (number_message fault value)
increment_of value step (Ok number) = sum_with_step number step (whole_of step)

abbrev pub increments : (value : List ℕ) → (words : List (List ℕ)) → Change
increments value [] = puts (increment_of value (codes "1") (whole_of value))
increments value (step ∷ []) = puts (increment_of value step (whole_of value))
increments value words = not_asked

-- tsv::lrange a k i j
abbrev pub ranges : (value : List ℕ) → (words : List (List ℕ)) → Change
ranges value (first ∷ last ∷ []) = Kept (range_answer value first last)
ranges value words = not_asked

-- tsv::lsearch a k ?mode? pattern
abbrev pub search_by : Matching → Search
search_by matching = record { matching = matching; all = false; inline = false; not = false }

abbrev pub searches : (value : List ℕ) → (words : List (List ℕ)) → Change
searches value (pattern ∷ []) = Kept (search_answer (search_by Glob) value pattern)
searches value words = not_asked

abbrev pub searches_with : (value pattern : List ℕ) → Option Matching → Change
searches_with value pattern None = not_asked
searches_with value pattern (Some matching) = Kept (search_answer (search_by matching) value pattern)

abbrev pub searches_by : (value : List ℕ) → (words : List (List ℕ)) → Change
searches_by value (mode ∷ pattern ∷ []) = searches_with value pattern (matching_of mode)
searches_by value words = not_asked

-- tsv::linsert a k i ?v ...?
abbrev pub inserts : (value : List ℕ) → (words : List (List ℕ)) → Change
inserts value (index ∷ items) = puts (insert_answer value index items)
inserts value [] = not_asked

-- tsv::lreplace a k i j ?v ...?
abbrev pub replaces : (value : List ℕ) → (words : List (List ℕ)) → Change
replaces value (first ∷ last ∷ items) = puts (replace_answer value first last items)
replaces value words = not_asked

-- tsv::lpush a k v ?i?: at the front, or before the item at i
abbrev pub pushes : (value : List ℕ) → (words : List (List ℕ)) → Change
pushes value (item ∷ []) = puts (insert_answer value (codes "0") (item ∷ []))
pushes value (item ∷ index ∷ []) = puts (insert_answer value index (item ∷ []))
pushes value words = not_asked

-- tsv::lpop a k ?i?: the first item, or that at i; outside the list nothing is removed
abbrev pub place_within : ℤ → (count : ℕ) → Option ℕ
place_within (pos n) count = if nat_lt n count then Some n else None
place_within (negsuc n) count = None

abbrev pub pops_at : (items : List (List ℕ)) → Option ℕ → Change
pops_at items None = Kept (Made [])
pops_at items (Some n) = Put (list_of (remove items n)) (slice_index_or items n [])

abbrev pub pops_among : (items : List (List ℕ)) → (word : List ℕ) → Change
pops_among items word = elim (index_of word) [
  | None ↦ Kept (Bad (bad_index_message word))
  | Some index ↦ pops_at items (place_within (place_in index (length items)) (length items))
]

abbrev pub pops_of : Split → (word : List ℕ) → Change
pops_of (split.Bad fault) word = Kept (Bad (list_message fault))
pops_of (split.Items items) word = pops_among items word

abbrev pub pops : (value : List ℕ) → (words : List (List ℕ)) → Change
pops value [] = pops_of (split_of value) (codes "0")
pops value (index ∷ []) = pops_of (split_of value) index
pops value words = not_asked

-- the table
abbrev pub change_of : ElementUsage → (value : List ℕ) → (words : List (List ℕ)) → Change
change_of element.Set value words = sets words
change_of element.Read value words = Kept (Made value)
change_of element.Get value words = Kept (Made value)
change_of element.Unset value words = Removed []
change_of element.Pop value words = Removed value
change_of element.Incr value words = increments value words
change_of element.Append value words = puts (Made (value ++ flat_map (λ word. word) words))
change_of element.Lappend value words = puts (insert_answer value (codes "end") words)
change_of element.Llength value words = Kept (count_answer value)
change_of element.Lindex value words = Kept (item_answer value words)
change_of element.Lrange value words = ranges value words
change_of element.Lsearch value words = searches value words
change_of element.LsearchBy value words = searches_by value words
change_of element.Linsert value words = inserts value words
change_of element.Lreplace value words = replaces value words
change_of element.Lpush value words = pushes value words
change_of element.Lpop value words = pops value words

-- what a missing element counts as; by the other usages it is refused
abbrev pub missing_as : ElementUsage → Option (List ℕ)
missing_as element.Set = Some []
missing_as element.Incr = Some (codes "0")
missing_as element.Append = Some []
missing_as element.Lappend = Some []
missing_as element.Lpush = Some []
missing_as usage = None

abbrev pub missing_message : (array key : List ℕ) → List ℕ
missing_message array key = codes "no such key \"" ++ (key ++ (codes "\" in array \"" ++ (array ++ codes "\"")))

abbrev pub change_of_missing :
    (array key : List ℕ) → ElementUsage → (words : List (List ℕ)) → Option (List ℕ) → Change
change_of_missing array key usage words None = Kept (Bad (missing_message array key))
change_of_missing array key usage words (Some value) = change_of usage value words

-- of an element that may be missing
abbrev pub change_if :
    (array key : List ℕ) → ElementUsage → (words : List (List ℕ)) → Option (List ℕ) → Change
change_if array key usage words None = change_of_missing array key usage words (missing_as usage)
change_if array key usage words (Some value) = change_of usage value words
