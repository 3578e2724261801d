-- What format(n) answers to words; `wrong` is the answer to a wrong number of them.
use Rattle.std.specs.Prelude.{◌≡◌, ℕ, List, [], ◌∷◌}
use Rattle.tt_format.specs.Formatting.{IsFormat}
use Rattle.tt_format.specs.declared.Formatted.{Formatted}
use Rattle.tt_format.specs.declared.Formatted.TheVariants as formatted
use Rattle.tt_lists.specs.declared.answer.ListAnswer.{ListAnswer}
use Rattle.tt_lists.specs.declared.answer.ListAnswer.TheVariants.{Made, Bad}

-- what printing came to
abbrev pub formatted_answer : Formatted → ListAnswer
formatted_answer (formatted.Made text) = Made text
formatted_answer (formatted.Bad message) = Bad message

-- format(n)
abbrev pub IsFormatAnswer : (wrong : ListAnswer) → (words : List (List ℕ)) → ListAnswer → Type 0
IsFormatAnswer wrong [] answer = answer ≡ wrong
IsFormatAnswer wrong (template ∷ values) answer =
    (came : Formatted) × IsFormat template values came × (answer ≡ formatted_answer came)
