-- What a value is after it grew at its end, and what is answered then (append(n), lappend(n)).
use Rattle.std.specs.Prelude.{ℕ, List, ◌++◌, codes}
use Rattle.std.specs.List.{flat_map}
use Rattle.tt_lists.specs.Commands.{insert_answer}
use Rattle.tt_lists.specs.declared.answer.ListAnswer.{ListAnswer}
use Rattle.tt_lists.specs.declared.answer.ListAnswer.TheVariants.{Made, Bad}

-- append(n): the texts follow the value, one after the other
abbrev pub text_with_texts : (texts : List (List ℕ)) → (value : List ℕ) → ListAnswer
text_with_texts texts value = Made (value ++ flat_map (λ text. text) texts)

-- lappend(n): they are the last items of a list, or the value is none
abbrev pub list_with_texts : (texts : List (List ℕ)) → (value : List ℕ) → ListAnswer
list_with_texts texts value = insert_answer value (codes "end") texts

-- the value after that answer
abbrev pub value_after : ListAnswer → (value : List ℕ) → List ℕ
value_after (Made text) value = text
value_after (Bad message) value = value
