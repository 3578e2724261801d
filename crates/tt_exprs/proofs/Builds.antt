-- The plain form of expressions.
use Rattle.std.proofs.Common.{◌≡◌, List, ap, sym, ◌∙◌, map}
use Rattle.std.specs.Prelude.{ℕ, Vec}
use Rattle.std.specs.declared.alloc.Global.{Global}
use Rattle.tt_script.specs.Plain.{plain_parts}
use Rattle.tt_script.specs.declared.command.Part.{Part}
use Rattle.tt_exprs.specs.Trees.{PlainExpr, leaf, words, node}
use Rattle.tt_exprs.specs.Parsing.{in_a_row}
use Rattle.tt_exprs.specs.Plain.{plain_step, plain_expr}
use Rattle.tt_exprs.specs.declared.op.Op.{Op}
use Rattle.tt_exprs.specs.declared.expression.Expr.{Expr}
use Rattle.tt_exprs.specs.declared.expression.Expr.TheVariants.{Leaf, Words, Node, rolls-Leaf, rolls-Words, rolls-Node}
use Rattle.tt_exprs.specs.declared.expression.Expr.TheOpen.{Expr-F}
use Rattle.tt_exprs.specs.declared.expression.Expr.TheFolds.{fold-roll-Expr}

pub plain_leaf : (text : List ℕ) → plain_expr (Leaf text) ≡ leaf text
plain_leaf text = ap plain_expr (sym (rolls-Leaf text)) ∙ fold-roll-Expr PlainExpr plain_step (Expr-F.Leaf text)

pub plain_words : (parts : Vec Part Global) → plain_expr (Words parts) ≡ words (plain_parts parts.items)
plain_words parts = ap plain_expr (sym (rolls-Words parts)) ∙ fold-roll-Expr PlainExpr plain_step (Expr-F.Words parts)

pub plain_node : (op : Op) (operands : Vec Expr Global) → plain_expr (Node op operands) ≡ node op (in_a_row (map plain_expr operands.items))
plain_node op operands = ap plain_expr (sym (rolls-Node op operands)) ∙ fold-roll-Expr PlainExpr plain_step (Expr-F.Node op operands)
