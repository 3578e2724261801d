-- The plain form of what `parse` answers: trees with lists in place of vectors.
use Rattle.tt_script.specs.Plain.{plain_parts}
use Rattle.tt_exprs.specs.Trees.{PlainExpr, leaf, words, node, PlainParsed, tree, bad}
use Rattle.tt_exprs.specs.Parsing as parsing
use Rattle.tt_exprs.specs.declared.expression.Expr.{Expr}
use Rattle.tt_exprs.specs.declared.expression.Expr.TheOpen.{Expr-F}
use Rattle.tt_exprs.specs.declared.expression.Expr.TheFolds.{fold-Expr}
use Rattle.tt_exprs.specs.declared.expression.Parsed.{Parsed}
use Rattle.tt_exprs.specs.declared.expression.Parsed.TheVariants as answers

-- one expression, whose operands are plain already
abbrev pub plain_step : Expr-F PlainExpr → PlainExpr
plain_step (Expr-F.Leaf text) = leaf text
plain_step (Expr-F.Words parts) = words (plain_parts parts.items)
plain_step (Expr-F.Node op operands) = node op (parsing.in_a_row operands.items)

-- an expression, whose vectors are lists
abbrev pub plain_expr : Expr → PlainExpr
plain_expr = fold-Expr PlainExpr plain_step

-- what a text is read as, likewise
abbrev pub plain_parsed : Parsed → PlainParsed
plain_parsed (answers.Tree expr) = tree (plain_expr expr)
plain_parsed (answers.Bad text) = bad text
