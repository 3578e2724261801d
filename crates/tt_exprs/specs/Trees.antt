-- The tree of an expression, as it is seen with lists in place of vectors (expr(n)).
use Rattle.std.specs.Prelude.{ℕ, List}
use Rattle.tt_script.specs.Words.{PlainParts}
use Rattle.tt_exprs.specs.declared.op.Op.{Op}

mutual
  -- what an expression is made of (expr(n), OPERANDS and OPERATORS)
  pub data PlainExpr : Type 0 where
    leaf : List ℕ → PlainExpr  -- a text that stands for itself: a number, a boolean word, a text in braces
    words : PlainParts → PlainExpr  -- a variable, a script in brackets or a text in quotes, which are substituted
    node : Op → PlainExprs → PlainExpr  -- an operator or a function, with its operands from left to right

  -- operands from left to right
  pub data PlainExprs : Type 0 where
    none : PlainExprs
    more : PlainExpr → PlainExprs → PlainExprs

-- what a text is read as: a tree, or the message of its error
pub data PlainParsed : Type 0 where
  tree : PlainExpr → PlainParsed
  bad : List ℕ → PlainParsed
