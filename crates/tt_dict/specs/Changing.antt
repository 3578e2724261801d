-- What a change makes of a dictionary (dict(n)): of what its text is read as, and never of the text.
use Rattle.std.specs.Prelude.{ℕ, ℤ, List, [], ◌++◌, codes, Result, Ok, Err}
use Rattle.std.specs.Fmt.{signed_decimal}
use Rattle.std.specs.List.{flat_map}
use Rattle.std.specs.Option.{unwrap_or}
use Rattle.tt_lists.specs.Messages.{list_message}
use Rattle.tt_lists.specs.Reading.{split_of}
use Rattle.tt_lists.specs.Spelling.{list_of}
use Rattle.tt_lists.specs.declared.answer.ListAnswer.{ListAnswer}
use Rattle.tt_lists.specs.declared.answer.ListAnswer.TheVariants.{Made, Bad}
use Rattle.tt_lists.specs.declared.items.Split.{Split}
use Rattle.tt_lists.specs.declared.items.Split.TheVariants as split
use Rattle.tt_number.specs.Messages.{arith_message, number_message}
use Rattle.tt_number.specs.Numerals.{whole_of}
use Rattle.tt_number.specs.Operators.{binary_of}
use Rattle.tt_number.specs.declared.numeral.NumberFault.{NumberFault}
use Rattle.tt_number.specs.declared.operators.ArithFault.{ArithFault}
use Rattle.tt_number.specs.declared.operators.NumOp.TheVariants.{Add}
use Rattle.tt_pairs.specs.Pairs.{Pairs, text_of, value_of, with_pair}
use Rattle.tt_pairs.specs.Reading.{Reading, reading_of}
use Rattle.tt_dict.specs.Paths.{after_edit_on, for_pairs}
use Rattle.tt_dict.specs.declared.changes.Change.{Change}
use Rattle.tt_dict.specs.declared.changes.Change.TheVariants.{Set, Unset, Incr, Append, Lappend}
use Rattle.tt_dict.specs.declared.edit.Edit.TheVariants.{Put, Remove}

-- the value of a key; a missing one counts as this text
abbrev pub value_or : (missing : List ℕ) → Pairs → (key : List ℕ) → List ℕ
value_or missing pairs key = unwrap_or (value_of pairs key) missing

-- dict incr: the value is a whole number, and so is the sum
abbrev pub sum_by : Result ℤ ArithFault → Result (List ℕ) (List ℕ)
sum_by (Ok sum) = Ok (signed_decimal sum)
sum_by (Err fault) = Err (arith_message fault)

abbrev pub number_increase : (text : List ℕ) → Result ℤ NumberFault → (by : ℤ) → Result (List ℕ) (List ℕ)
number_increase text (Ok number) by = sum_by (binary_of Add number by)
number_increase text (Err fault) by = Err (number_message fault text)

abbrev pub text_increase : (text : List ℕ) → (by : ℤ) → Result (List ℕ) (List ℕ)
text_increase text by = number_increase text (whole_of text) by

-- dict append
abbrev pub text_with : (text : List ℕ) → (pieces : List (List ℕ)) → List ℕ
text_with text pieces = text ++ flat_map (λ piece. piece) pieces

-- dict lappend: the value is a list, and becomes the canonical text of the longer one
abbrev pub list_with : Split → (more : List (List ℕ)) → Result (List ℕ) (List ℕ)
list_with (split.Items items) more = Ok (list_of (items ++ more))
list_with (split.Bad fault) more = Err (list_message fault)

-- what was made is the key's value
abbrev pub putting : Pairs → (key : List ℕ) → Result (List ℕ) (List ℕ) → Reading
putting pairs key (Ok text) = Ok (with_pair pairs key text)
putting pairs key (Err message) = Err message

-- the table
abbrev pub after : Change → Pairs → Reading
after (Set path value) pairs = after_edit_on (Put value) pairs path
after (Unset path) pairs = after_edit_on Remove pairs path
after (Incr key by) pairs = putting pairs key (text_increase (value_or (codes "0") pairs key) by)
after (Append key pieces) pairs = putting pairs key (Ok (text_with (value_or [] pairs key) pieces))
after (Lappend key items) pairs = putting pairs key (list_with (split_of (value_or [] pairs key)) items)

-- the canonical text of the pairs, or the message
abbrev pub answer_of : Reading → ListAnswer
answer_of (Ok pairs) = Made (text_of pairs)
answer_of (Err message) = Bad message

abbrev pub change_answer : Change → Reading → ListAnswer
change_answer change reading = answer_of (for_pairs (after change) reading)
