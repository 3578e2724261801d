-- What the words of commands mean that evaluate them as they stand (catch(n), expr(n), for(n), while(n)).
use Rattle.std.specs.Prelude.{[], ◌∷◌, codes, Some, None}
use Rattle.std.specs.List.{join_by}
use Rattle.tt_control.specs.Refusals.{Meaning}
use Rattle.tt_control.specs.declared.control.Control.TheVariants as control

-- catch(n)
abbrev pub catch : Meaning
catch wrong (script ∷ []) = control.Catch script None
catch wrong (script ∷ variable ∷ []) = control.Catch script (Some variable)
catch wrong words = wrong

-- expr(n): the words with a space between each two
abbrev pub expression : Meaning
expression wrong [] = wrong
expression wrong (word ∷ words) = control.Expr (join_by (λ word. word) (codes " ") (word ∷ words))

-- while(n)
abbrev pub while_loop : Meaning
while_loop wrong (test ∷ body ∷ []) = control.While test body
while_loop wrong words = wrong

-- for(n)
abbrev pub for_loop : Meaning
for_loop wrong (start ∷ test ∷ next ∷ body ∷ []) = control.For start test next body
for_loop wrong words = wrong
