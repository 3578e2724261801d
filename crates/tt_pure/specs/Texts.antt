-- What commands that make texts of lists, or lists of texts, answer to words; `wrong` is the answer to a wrong number
-- of them.
use Rattle.std.specs.Prelude.{◌≡◌, ℕ, List, [], ◌∷◌, codes}
use Rattle.tt_text.specs.Characters.{characters}
use Rattle.tt_lists.specs.Spelling.{list_of}
use Rattle.tt_lists.specs.declared.answer.ListAnswer.{ListAnswer}
use Rattle.tt_lists.specs.declared.answer.ListAnswer.TheVariants.{Made}
use Rattle.tt_list_commands.specs.Concatenating.{concatenation}
use Rattle.tt_list_commands.specs.Joining.{join_answer}
use Rattle.tt_strings.specs.Splitting.{IsSplitInto}
use Rattle.tt_strings.specs.declared.trimming.TheConstants.{WHITE_SPACE}

-- concat(n)
abbrev pub concat : (words : List (List ℕ)) → ListAnswer
concat words = Made (concatenation words)

-- join(n): without a separator, a space
abbrev pub join : (wrong : ListAnswer) → (words : List (List ℕ)) → ListAnswer
join wrong (list ∷ []) = join_answer list (codes " ")
join wrong (list ∷ separator ∷ []) = join_answer list separator
join wrong words = wrong

-- a text split at characters
abbrev pub IsSplitAt : (text splitting : List ℕ) → ListAnswer → Type 0
IsSplitAt text splitting answer =
    (fields : List (List ℕ))
    × IsSplitInto (characters splitting) (characters text) fields
    × (answer ≡ Made (list_of fields))

-- split(n): without characters, at white space
abbrev pub IsSplitAnswer : (wrong : ListAnswer) → (words : List (List ℕ)) → ListAnswer → Type 0
IsSplitAnswer wrong (text ∷ []) answer = IsSplitAt text WHITE_SPACE.now answer
IsSplitAnswer wrong (text ∷ splitting ∷ []) answer = IsSplitAt text splitting answer
IsSplitAnswer wrong words answer = answer ≡ wrong
