-- The items of a list in reverse order (lreverse(n)).
use Rattle.std.specs.Prelude.{ℕ, List, reverse}
use Rattle.tt_lists.specs.Commands.{for_items}
use Rattle.tt_lists.specs.Reading.{split_of}
use Rattle.tt_lists.specs.Spelling.{list_of}
use Rattle.tt_lists.specs.declared.answer.ListAnswer.{ListAnswer}
use Rattle.tt_lists.specs.declared.answer.ListAnswer.TheVariants.{Made}

-- the list of them
abbrev pub reverse_answer : (list : List ℕ) → ListAnswer
reverse_answer list = for_items (λ items. Made (list_of (reverse items))) (split_of list)
