-- What commands on lists answer to words; `wrong` is the answer to a wrong number of them.
use Rattle.std.specs.Prelude.{ℕ, List, [], ◌∷◌}
use Rattle.tt_lists.specs.Commands.{count_answer, insert_answer, item_answer, range_answer, replace_answer}
use Rattle.tt_lists.specs.Spelling.{list_of}
use Rattle.tt_lists.specs.declared.answer.ListAnswer.{ListAnswer}
use Rattle.tt_lists.specs.declared.answer.ListAnswer.TheVariants.{Made}
use Rattle.tt_list_commands.specs.Repeating.{repeat_answer}
use Rattle.tt_list_commands.specs.Reversing.{reverse_answer}

-- the list of its words (list(n))
abbrev pub list : (words : List (List ℕ)) → ListAnswer
list words = Made (list_of words)

-- llength(n)
abbrev pub llength : (wrong : ListAnswer) → (words : List (List ℕ)) → ListAnswer
llength wrong (list ∷ []) = count_answer list
llength wrong words = wrong

-- lreverse(n)
abbrev pub lreverse : (wrong : ListAnswer) → (words : List (List ℕ)) → ListAnswer
lreverse wrong (list ∷ []) = reverse_answer list
lreverse wrong words = wrong

-- lindex(n)
abbrev pub lindex : (wrong : ListAnswer) → (words : List (List ℕ)) → ListAnswer
lindex wrong (list ∷ indices) = item_answer list indices
lindex wrong words = wrong

-- lrange(n)
abbrev pub lrange : (wrong : ListAnswer) → (words : List (List ℕ)) → ListAnswer
lrange wrong (list ∷ first ∷ last ∷ []) = range_answer list first last
lrange wrong words = wrong

-- linsert(n)
abbrev pub linsert : (wrong : ListAnswer) → (words : List (List ℕ)) → ListAnswer
linsert wrong (list ∷ index ∷ items) = insert_answer list index items
linsert wrong words = wrong

-- lreplace(n)
abbrev pub lreplace : (wrong : ListAnswer) → (words : List (List ℕ)) → ListAnswer
lreplace wrong (list ∷ first ∷ last ∷ items) = replace_answer list first last items
lreplace wrong words = wrong

-- lrepeat(n)
abbrev pub lrepeat : (wrong : ListAnswer) → (words : List (List ℕ)) → ListAnswer
lrepeat wrong (count ∷ values) = repeat_answer count values
lrepeat wrong words = wrong
