-- How the tokens of an expression make a tree (expr(n), OPERATORS): an operator waits for its right
-- operand until something comes that binds less tightly.
use Rattle.std.specs.Prelude.{ℕ, ◌+◌, Bool, true, false, not, nat_lt, max, List, [], ◌∷◌, ◌++◌, fold, Option, Some}
use Rattle.std.specs.Prelude.{None, codes}
use Rattle.tt_exprs.specs.Trees.{PlainExpr, node, PlainExprs, none, more, PlainParsed, tree, bad}
use Rattle.tt_exprs.specs.Operators.{binding, level, left_level, takes_more}
use Rattle.tt_exprs.specs.Tokens.{PlainToken, operand, operator, function, opening, closing, comma, colon, Tokens, read}
use Rattle.tt_exprs.specs.Tokens.{refused_word, stopped, tokens}
use Rattle.tt_exprs.specs.declared.op.Op.{Op}
use Rattle.tt_exprs.specs.declared.op.Op.TheVariants.{Neg, Plus, BitNot, Not, Add, Sub, Choose}

-- ---- operands ----

-- an operand: its tree and how deeply that is nested, or one that is nested too deeply
pub data PlainValue : Type 0 where
  nested : PlainExpr → ℕ → PlainValue
  too_deep : PlainValue

-- how deeply operators, functions and parentheses may be nested
abbrev pub most_nested : ℕ
most_nested = 1000

-- a tree that is one level around what is nested so deeply
abbrev pub around : PlainExpr → ℕ → PlainValue
around expr depth = elim (nat_lt depth most_nested) [ true ↦ nested expr (depth + 1) | false ↦ too_deep ]

-- parentheses around an operand
abbrev pub parenthesized : PlainValue → PlainValue
parenthesized (nested expr depth) = around expr depth
parenthesized too_deep = too_deep

-- operands in a row, with how deeply the deepest is nested, or a row if one is nested too deeply
pub data PlainRow : Type 0 where
  row : List PlainExpr → ℕ → PlainRow
  too_deep_row : PlainRow

abbrev pub no_operands : PlainRow
no_operands = row [] 0

-- one operand more
abbrev pub followed_by : PlainRow → PlainValue → PlainRow
followed_by (row exprs deepest) (nested expr depth) = row (exprs ++ expr ∷ []) (max deepest depth)
followed_by (row exprs deepest) too_deep = too_deep_row
followed_by too_deep_row value = too_deep_row

abbrev pub in_a_row : List PlainExpr → PlainExprs
in_a_row [] = none
in_a_row (expr ∷ exprs) = more expr (in_a_row exprs)

-- an operator or a function with its operands
abbrev pub operator_value : Op → PlainRow → PlainValue
operator_value op (row exprs deepest) = around (node op (in_a_row exprs)) deepest
operator_value op too_deep_row = too_deep

-- ---- what waits for an operand ----

pub data PlainPending : Type 0 where
  unary : Op → PlainPending  -- an operator before its operand
  binary : Op → PlainValue → PlainPending  -- a left operand and an operator
  test : PlainValue → PlainPending  -- what stands before a `?`
  branch : PlainValue → PlainValue → PlainPending  -- what stands before a `?`, and what before its `:`
  parenthesis : PlainPending
  arguments : Op → PlainRow → PlainPending  -- a function and the operands before the last comma

-- the level of an operator between operands, and the one that its left operand has at least
abbrev pub level_of : Op → Option ℕ
level_of op = level (binding op)

abbrev pub left_level_of : Op → Option ℕ
left_level_of op = left_level (binding op)

-- whether a level is there and is not below a bound
abbrev pub reaches : ℕ → Option ℕ → Bool
reaches bound None = false
reaches bound (Some n) = not (nat_lt n bound)

-- whether what waits takes an operand before an operator that binds its left operand at this level
abbrev pub binds : ℕ → PlainPending → Bool
binds bound (unary op) = true
binds bound (binary op left) = reaches bound (level_of op)
binds bound (branch condition chosen) = reaches bound (level_of Choose)
binds bound (test condition) = false
binds bound parenthesis = false
binds bound (arguments op operands) = false

-- what an operator makes with its last operand
abbrev pub value_of_pending : PlainPending → PlainValue → PlainValue
value_of_pending (unary op) value = operator_value op (followed_by no_operands value)
value_of_pending (binary op left) value = operator_value op (followed_by (followed_by no_operands left) value)
value_of_pending (branch condition chosen) value =
    operator_value Choose (followed_by (followed_by (followed_by no_operands condition) chosen) value)
value_of_pending (test condition) value = value
value_of_pending parenthesis value = value
value_of_pending (arguments op operands) value = value

-- an operand with what waits before it, the innermost first
pub record PlainWaiting : Type 0 where
  pub pending : List PlainPending
  pub value : PlainValue

-- what takes the operand before an operator that binds its left operand at this level
unfoldable pub gathered : ℕ → List PlainPending → PlainValue → PlainWaiting
gathered bound [] value = record { pending = []; value = value }
gathered bound (first ∷ pending) value =
    elim (binds bound first) [
      | true ↦ gathered bound pending (value_of_pending first value)
      | false ↦ record { pending = first ∷ pending; value = value }
    ]

-- ---- from token to token ----

-- what the tokens so far have come to
pub data PlainState : Type 0 where
  wants : List PlainPending → PlainState  -- an operand comes next
  calls : Op → List PlainPending → PlainState  -- the `(` of this function comes next
  has : PlainWaiting → PlainState  -- an operand is there
  wrong : PlainState  -- a fault of form

-- something more waits, and an operand is wanted
abbrev pub wants_after : PlainPending → List PlainPending → PlainState
wants_after first pending = wants (first ∷ pending)

-- the operator before an operand that is spelled as this one
abbrev pub as_prefix : Op → Option Op
as_prefix Sub = Some Neg
as_prefix Add = Some Plus
as_prefix BitNot = Some BitNot
as_prefix Not = Some Not
as_prefix op = None

abbrev pub state_with_prefix : List PlainPending → Option Op → PlainState
state_with_prefix pending (Some op) = wants_after (unary op) pending
state_with_prefix pending None = wrong

-- a token if an operand is wanted
abbrev pub at_operand : List PlainPending → PlainToken → PlainState
at_operand pending (operand expr) = has (record { pending = pending; value = nested expr 0 })
at_operand pending (operator op) = state_with_prefix pending (as_prefix op)
at_operand pending (function op) = calls op pending
at_operand pending opening = wants_after parenthesis pending
at_operand pending closing = wrong
at_operand pending comma = wrong
at_operand pending colon = wrong

-- a token after the name of a function
abbrev pub at_call : Op → List PlainPending → PlainToken → PlainState
at_call op pending opening = wants_after (arguments op no_operands) pending
at_call op pending token = wrong

-- an operator with its left operand
abbrev pub with_left : Op → PlainValue → PlainPending
with_left Choose value = test value
with_left op value = binary op value

abbrev pub wants_right : Op → PlainWaiting → PlainState
wants_right op left = wants_after (with_left op left.value) left.pending

-- an operator after an operand, if its left operand binds at this level at least
abbrev pub state_with_operator : Op → Option ℕ → PlainWaiting → PlainState
state_with_operator op None waiting = wrong
state_with_operator op (Some bound) waiting = wants_right op (gathered bound waiting.pending waiting.value)

-- a `:` after an operand that is whole
abbrev pub after_colon : PlainValue → List PlainPending → PlainState
after_colon value (test condition ∷ pending) = wants_after (branch condition value) pending
after_colon value pending = wrong

-- a `)`
abbrev pub after_closing : PlainValue → List PlainPending → PlainState
after_closing value (parenthesis ∷ pending) = has (record { pending = pending; value = parenthesized value })
after_closing value (arguments op operands ∷ pending) =
    has (record { pending = pending; value = operator_value op (followed_by operands value) })
after_closing value pending = wrong

-- a `,`
abbrev pub after_comma : PlainValue → List PlainPending → PlainState
after_comma value (arguments op operands ∷ pending) =
    elim (takes_more op) [
      | true ↦ wants_after (arguments op (followed_by operands value)) pending
      | false ↦ wrong
    ]
after_comma value pending = wrong

-- a token after an operand
abbrev pub at_operator : PlainWaiting → PlainToken → PlainState
at_operator waiting (operand expr) = wrong
at_operator waiting (operator op) = state_with_operator op (left_level_of op) waiting
at_operator waiting (function op) = wrong
at_operator waiting opening = wrong
at_operator waiting closing =
    let whole = gathered 0 waiting.pending waiting.value in after_closing whole.value whole.pending
at_operator waiting comma =
    let whole = gathered 0 waiting.pending waiting.value in after_comma whole.value whole.pending
at_operator waiting colon =
    let whole = gathered 0 waiting.pending waiting.value in after_colon whole.value whole.pending

abbrev pub step : PlainState → PlainToken → PlainState
step (wants pending) token = at_operand pending token
step (calls op pending) token = at_call op pending token
step (has waiting) token = at_operator waiting token
step wrong token = wrong

-- ---- the whole ----

-- the tree, or why there is none
pub data PlainOutcome : Type 0 where
  good : PlainExpr → PlainOutcome
  malformed : PlainOutcome
  nested_too_deeply : PlainOutcome

abbrev pub outcome_of : PlainValue → List PlainPending → PlainOutcome
outcome_of (nested expr depth) [] = good expr
outcome_of too_deep [] = nested_too_deeply
outcome_of value (first ∷ pending) = malformed

-- what the tokens have come to at their end
abbrev pub final_outcome : PlainState → PlainOutcome
final_outcome (has waiting) =
    let whole = gathered 0 waiting.pending waiting.value in outcome_of whole.value whole.pending
final_outcome (wants pending) = malformed
final_outcome (calls op pending) = malformed
final_outcome wrong = malformed

-- the tree of these tokens
abbrev pub tree_of : List PlainToken → PlainOutcome
tree_of ts = final_outcome (fold step (wants []) ts)

-- the messages
abbrev pub bareword_error : List ℕ → List ℕ
bareword_error word = codes "invalid bareword \"" ++ (word ++ codes "\"")

abbrev pub syntax_error : List ℕ → List ℕ
syntax_error text = codes "syntax error in expression \"" ++ (text ++ codes "\"")

abbrev pub depth_error : List ℕ
depth_error = codes "expression nested too deeply"

abbrev pub parse_answer : List ℕ → PlainOutcome → PlainParsed
parse_answer text (good expr) = tree expr
parse_answer text malformed = bad (syntax_error text)
parse_answer text nested_too_deeply = bad depth_error

-- the first refused bare word, then a fault of form, then the depth
abbrev pub parse_of_tokens : List ℕ → Tokens → PlainParsed
parse_of_tokens text (read ts) = parse_answer text (tree_of ts)
parse_of_tokens text (refused_word word) = bad (bareword_error word)
parse_of_tokens text stopped = bad (syntax_error text)

-- what a text is read as
unfoldable pub parse : List ℕ → PlainParsed
parse text = parse_of_tokens text (tokens 0 text)
