-- Rows of the definitions, computed.
use Rattle.std.proofs.Common.{◌≡◌, refl}
use Rattle.std.specs.Prelude.{codes}
use Rattle.tt_exprs.specs.Trees.{leaf, node, none, more, tree, bad}
use Rattle.tt_exprs.specs.Tokens.{token, tokens, word, sign}
use Rattle.tt_exprs.specs.Parsing.{parse, gathered}
use Rattle.tt_exprs.specs.declared.op.Op.TheVariants.{Pow, Add}

power_groups_right : parse (codes "2 ** 3 ** 2") ≡ tree
    (node Pow (more (leaf (codes "2")) (more (node Pow (more (leaf (codes "3")) (more (leaf (codes "2")) none))) none)))
unfolding parse tokens token word sign gathered
power_groups_right = refl

missing_operand : parse (codes "1 +") ≡ bad (codes "syntax error in expression \"1 +\"")
unfolding parse tokens token word sign gathered
missing_operand = refl

addition : parse (codes "1+2") ≡ tree (node Add (more (leaf (codes "1")) (more (leaf (codes "2")) none)))
unfolding parse tokens token word sign gathered
addition = refl
