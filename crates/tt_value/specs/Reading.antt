-- What a value is read as as a list (Tcl(n), lists; llength(n), lrange(n)).
use Rattle.std.specs.Prelude.{ℕ, List, length, Result, Ok, Err}
use Rattle.tt_lists.specs.Reading.{split_of}
use Rattle.tt_lists.specs.declared.answer.ListAnswer.{ListAnswer}
use Rattle.tt_lists.specs.declared.answer.ListAnswer.TheVariants.{Made, Bad as Refused}
use Rattle.tt_lists.specs.declared.items.ListFault.{ListFault}
use Rattle.tt_lists.specs.declared.items.Split.{Split}
use Rattle.tt_lists.specs.declared.items.Split.TheVariants.{Items, Bad}

-- the items, or what keeps the text from being a list
abbrev pub items_by : Split → Result (List (List ℕ)) ListFault
items_by (Items items) = Ok items
items_by (Bad fault) = Err fault

abbrev pub items_of : (text : List ℕ) → Result (List (List ℕ)) ListFault
items_of text = items_by (split_of text)

-- how many they are
abbrev pub count_by : Result (List (List ℕ)) ListFault → Result ℕ ListFault
count_by (Ok items) = Ok (length items)
count_by (Err fault) = Err fault

abbrev pub count_of : (text : List ℕ) → Result ℕ ListFault
count_of text = count_by (items_of text)

-- an answer as the text that was made, or the message
abbrev pub text_or_message : ListAnswer → Result (List ℕ) (List ℕ)
text_or_message (Made text) = Ok text
text_or_message (Refused message) = Err message

-- the answer that is so
abbrev pub answer_of : Result (List ℕ) (List ℕ) → ListAnswer
answer_of (Ok text) = Made text
answer_of (Err message) = Refused message
