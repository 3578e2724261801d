-- The grammar of expressions over whole lists of tokens (expr(n), OPERANDS and OPERATORS): what a list spells,
-- and how deeply operators, functions and parentheses are nested in it. What nests is one level around the
-- deepest of its operands.
use Rattle.std.specs.Prelude.{◌≡◌, ◌≢◌, ℕ, zero, suc, ◌<◌, ◌≤◌, ◌↔◌, max, true, List, [], ◌∷◌, ◌++◌, Some}
use Rattle.tt_exprs.specs.Trees.{PlainExpr, node, PlainExprs, none, more}
use Rattle.tt_exprs.specs.Operators.{binding, takes_more}
use Rattle.tt_exprs.specs.Tokens.{PlainToken, operand, operator, function, opening, closing, comma, colon}
use Rattle.tt_exprs.specs.Parsing.{most_nested, as_prefix, good, malformed, nested_too_deeply, tree_of}
use Rattle.tt_exprs.specs.declared.op.Op.{Op}
use Rattle.tt_exprs.specs.declared.op.Op.TheVariants.{Choose}
use Rattle.tt_exprs.specs.declared.operators.Binding.TheVariants.{Leftwards, Rightwards}

mutual
  -- an operand (OPERANDS)
  pub data IsOperand : List PlainToken → PlainExpr → ℕ → Type 0 where
    -- a token that is an operand: nothing is nested in it
    token_operand : {expr : PlainExpr} → IsOperand (operand expr ∷ []) expr zero
    -- (expression)
    in_parentheses :
        {depth : ℕ} {ts inside : List PlainToken} {expr : PlainExpr} →
        ts ≡ inside ++ closing ∷ [] →
        IsAtLevel 0 inside expr depth →
        IsOperand (opening ∷ ts) expr (suc depth)
    -- function(expression, expression, ..)
    function_call :
        {depth : ℕ} {op : Op} {ts inside : List PlainToken} {exprs : PlainExprs} →
        ts ≡ inside ++ closing ∷ [] →
        IsArguments op inside exprs depth →
        IsOperand (function op ∷ opening ∷ ts) (node op exprs) (suc depth)
    -- an operator before its operand, which is an operand itself: `-` and `!` bind tighter than any between operands
    after_prefix :
        {depth : ℕ} {sign op : Op} {ts : List PlainToken} {expr : PlainExpr} →
        as_prefix sign ≡ Some op →
        IsOperand ts expr depth →
        IsOperand (operator sign ∷ ts) (node op (more expr none)) (suc depth)

  -- what stands in the parentheses of a function: one expression, or some between commas if it takes more
  pub data IsArguments : Op → List PlainToken → PlainExprs → ℕ → Type 0 where
    -- the last one
    last_argument :
        {depth : ℕ} {op : Op} {ts : List PlainToken} {expr : PlainExpr} →
        IsAtLevel 0 ts expr depth →
        IsArguments op ts (more expr none) depth
    -- one, a comma, and others
    next_argument :
        {d e : ℕ} {op : Op} {ts first others : List PlainToken} {expr : PlainExpr} {exprs : PlainExprs} →
        takes_more op ≡ true →
        ts ≡ first ++ comma ∷ others →
        IsAtLevel 0 first expr d →
        IsArguments op others exprs e →
        IsArguments op ts (more expr exprs) (max d e)

  -- an expression whose operators bind at this level or tighter, but for those in parentheses and functions
  pub data IsAtLevel : ℕ → List PlainToken → PlainExpr → ℕ → Type 0 where
    -- an operand alone, which is at every level
    one_operand :
        {bound depth : ℕ} {ts : List PlainToken} {expr : PlainExpr} →
        IsOperand ts expr depth →
        IsAtLevel bound ts expr depth
    -- two operands of an operator that groups from the left: the right one binds tighter
    from_left :
        {bound n d e : ℕ} {op : Op} {ts left right : List PlainToken} {a b : PlainExpr} →
        binding op ≡ Leftwards n →
        bound ≤ n →
        ts ≡ left ++ operator op ∷ right →
        IsAtLevel n left a d →
        IsAtLevel (suc n) right b e →
        IsAtLevel bound ts (node op (more a (more b none))) (suc (max d e))
    -- two operands of an operator that groups from the right: the left one binds tighter
    from_right :
        {bound n d e : ℕ} {op : Op} {ts left right : List PlainToken} {a b : PlainExpr} →
        op ≢ Choose →
        binding op ≡ Rightwards n →
        bound ≤ n →
        ts ≡ left ++ operator op ∷ right →
        IsAtLevel (suc n) left a d →
        IsAtLevel n right b e →
        IsAtLevel bound ts (node op (more a (more b none))) (suc (max d e))
    -- condition ? chosen : other, at the lowest level: what is chosen is any expression, and it groups from the right
    choice :
        {d e f : ℕ} {ts condition branches chosen other : List PlainToken} {a b c : PlainExpr} →
        ts ≡ condition ++ operator Choose ∷ branches →
        branches ≡ chosen ++ colon ∷ other →
        IsAtLevel 1 condition a d →
        IsAtLevel 0 chosen b e →
        IsAtLevel 0 other c f →
        IsAtLevel zero ts (node Choose (more a (more b (more c none)))) (suc (max (max d e) f))

-- the tokens spell this tree, which is nested so deeply
abbrev pub IsExpr : List PlainToken → PlainExpr → ℕ → Type 0
IsExpr ts expr depth = IsAtLevel 0 ts expr depth

-- ---- what the grammar and the function that makes the tree have to do with one another ----

-- a tree is made exactly if the grammar has it and it is nested no deeper than it may be
abbrev pub TreeLaw : Type 0
TreeLaw =
    (ts : List PlainToken) (expr : PlainExpr) →
    (tree_of ts ≡ good expr) ↔ ((depth : ℕ) × IsExpr ts expr depth × (depth ≤ most_nested))

-- the nesting is at fault exactly if the grammar has a tree that is nested deeper
abbrev pub DepthLaw : Type 0
DepthLaw =
    (ts : List PlainToken) →
    (tree_of ts ≡ nested_too_deeply) ↔ ((expr : PlainExpr) × (depth : ℕ) × IsExpr ts expr depth × (most_nested < depth))

-- the form is at fault exactly if the grammar has no tree
abbrev pub FormLaw : Type 0
FormLaw =
    (ts : List PlainToken) →
    (tree_of ts ≡ malformed) ↔ ((expr : PlainExpr) (depth : ℕ) → IsExpr ts expr depth → ⊥)
