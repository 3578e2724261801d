-- Worked examples.
use Rattle.std.specs.Prelude.{◌≡◌, ℕ, Bool, true, false, List, [], ◌∷◌, ◌++◌, Some, None, codes}
use Rattle.tt_script.specs.Words.{letters, variable, element, script, PlainParts, none, more, PlainWord}
use Rattle.tt_exprs.specs.Trees as trees
use Rattle.tt_exprs.specs.Trees.{PlainExpr, leaf, words, node, PlainExprs}
use Rattle.tt_exprs.specs.declared.op.Op.TheVariants.{Add, And, Choose}
use Rattle.tt_code.specs.Expressions.{value_needs, condition_needs, with_result}
use Rattle.tt_code.specs.Needs.{Needs, Variable, Script, Refused, Values}
use Rattle.tt_code.specs.Substitution.{words_needs}

-- what is needed once these values are given, one after another
abbrev pub after : (given : List (List ℕ)) → Needs → Needs
after [] needs = needs
after (v ∷ given) (Variable name index go) = after given (go v)
after (v ∷ given) (Script text go) = after given (go v)
after (v ∷ given) (Refused message) = Refused message
after (v ∷ given) (Values values) = Values values

abbrev pub word : (expand : Bool) → PlainParts → PlainWord
word expand inside = record { expand = expand; parts = inside }

-- $x, $y, $z and [y] as operands
abbrev pub x : PlainExpr
x = words (more (variable (codes "x")) none)

abbrev pub y : PlainExpr
y = words (more (variable (codes "y")) none)

abbrev pub z : PlainExpr
z = words (more (variable (codes "z")) none)

abbrev pub script_y : PlainExpr
script_y = words (more (script (codes "y")) none)

abbrev pub one_of_two : PlainExpr
one_of_two = node Choose (trees.more x (trees.more y (trees.more z trees.none)))

abbrev pub both_of_two : PlainExpr
both_of_two = node And (trees.more x (trees.more script_y trees.none))

pub record WorkedNeeds : Type 0 where
  -- a$b
  pub joined :
      words_needs (word false (more (letters (codes "a")) (more (variable (codes "b")) none)) ∷ [])
      ≡ Variable (codes "b") None (λ b. Values ((codes "a" ++ b) ∷ []))
  -- $a($i)
  pub indexed :
      words_needs (word false (more (element (codes "a") (more (variable (codes "i")) none)) none) ∷ [])
      ≡ Variable (codes "i") None (λ i. Variable (codes "a") (Some i) (λ v. Values (v ∷ [])))
  -- [x]y
  pub bracketed :
      words_needs (word false (more (script (codes "x")) (more (letters (codes "y")) none)) ∷ [])
      ≡ Script (codes "x") (λ v. Values ((v ++ codes "y") ∷ []))
  -- {*}$l z
  pub expanded :
      after (codes "a b" ∷ [])
      (words_needs (word true (more (variable (codes "l")) none) ∷ word false (more (letters (codes "z")) none) ∷ []))
      ≡ Values (codes "a" ∷ codes "b" ∷ codes "z" ∷ [])
  -- 1 + $x
  pub added :
      after (codes "2" ∷ []) (value_needs (node Add (trees.more (leaf (codes "1")) (trees.more x trees.none))))
      ≡ Values (codes "3" ∷ [])
  -- $x && [y]
  pub passed_over : after (codes "0" ∷ []) (value_needs both_of_two) ≡ Values (codes "0" ∷ [])
  pub both : after (codes "1" ∷ codes "yes" ∷ []) (value_needs both_of_two) ≡ Values (codes "1" ∷ [])
  pub no_truth :
      after (codes "a" ∷ []) (condition_needs both_of_two) ≡ Refused (codes "expected boolean value but got \"a\"")
  -- $x ? $y : $z
  pub second :
      after (codes "1" ∷ []) (value_needs one_of_two)
      ≡ Variable (codes "y") None (λ v. with_result v (λ r. Values (r ∷ [])))
  pub third :
      after (codes "0" ∷ []) (value_needs one_of_two)
      ≡ Variable (codes "z") None (λ v. with_result v (λ r. Values (r ∷ [])))
