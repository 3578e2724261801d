-- The text of a list's items with a separator between them (join(n)).
use Rattle.std.specs.Prelude.{ℕ, List}
use Rattle.std.specs.List.{join_by}
use Rattle.tt_lists.specs.Commands.{for_items}
use Rattle.tt_lists.specs.Reading.{split_of}
use Rattle.tt_lists.specs.declared.answer.ListAnswer.{ListAnswer}
use Rattle.tt_lists.specs.declared.answer.ListAnswer.TheVariants.{Made}

-- texts with a separator between each two
abbrev pub joined_text : (separator : List ℕ) → List (List ℕ) → List ℕ
joined_text separator texts = join_by (λ text. text) separator texts

-- the items so
abbrev pub join_answer : (list separator : List ℕ) → ListAnswer
join_answer list separator = for_items (λ items. Made (joined_text separator items)) (split_of list)
