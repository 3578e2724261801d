-- What the table of precedence says of every operator, and what nests.
use Rattle.std.proofs.Common.{◌≡◌, ◌≢◌, ◌⊎◌, inl, inr, ℕ, suc, ◌+◌, ◌<◌, ◌≤◌, max, Bool, true, false, not, nat_lt, List}
use Rattle.std.proofs.Common.{[], ◌∷◌, ◌++◌, Some, refl, ap, sym, ◌∙◌, subst, arith}
use Rattle.std.proofs.lemmas.Bool.{ltb-true, ltb-false, lt-ltb, le-ltb}
use Rattle.tt_exprs.specs.Trees.{PlainExpr, node, none, more}
use Rattle.tt_exprs.specs.Operators.{binding, left_level}
use Rattle.tt_exprs.specs.Parsing.{PlainValue, nested, too_deep, most_nested, around, parenthesized, PlainRow, row}
use Rattle.tt_exprs.specs.Parsing.{too_deep_row, no_operands, followed_by, in_a_row, operator_value, unary, binary, branch}
use Rattle.tt_exprs.specs.Parsing.{value_of_pending, left_level_of, reaches, with_left}
use Rattle.tt_exprs.specs.declared.op.Op.{Op}
use Rattle.tt_exprs.specs.declared.op.Op.TheVariants.{Neg, Plus, BitNot, Not, Pow, Mul, Div, Mod, Add, Sub, Shl, Shr}
use Rattle.tt_exprs.specs.declared.op.Op.TheVariants.{Less, Greater, LessEqual, GreaterEqual, Equal, NotEqual}
use Rattle.tt_exprs.specs.declared.op.Op.TheVariants.{TextEqual, TextNotEqual, Member, NotMember, BitAnd, BitXor, BitOr}
use Rattle.tt_exprs.specs.declared.op.Op.TheVariants.{And, Or, Choose, Abs, Int, Max, Min}
use Rattle.tt_exprs.specs.declared.operators.Binding.{Binding}
use Rattle.tt_exprs.specs.declared.operators.Binding.TheVariants.{Before, Leftwards, Rightwards, Called}

-- ---- the table ----

-- which levels group from the left, and which from the right
abbrev pub Regular : Binding → Type 0
Regular (Leftwards n) = (0 < n) × (n < 13)
Regular (Rightwards n) = (n ≡ 13) ⊎ (n ≡ 0)
Regular Before = Unit {0}
Regular Called = Unit {0}

pub regular : (op : Op) → Regular (binding op)
regular Neg = tt
regular Plus = tt
regular BitNot = tt
regular Not = tt
regular Pow = inl refl
regular Mul = (omega arith, omega arith)
regular Div = (omega arith, omega arith)
regular Mod = (omega arith, omega arith)
regular Add = (omega arith, omega arith)
regular Sub = (omega arith, omega arith)
regular Shl = (omega arith, omega arith)
regular Shr = (omega arith, omega arith)
regular Less = (omega arith, omega arith)
regular Greater = (omega arith, omega arith)
regular LessEqual = (omega arith, omega arith)
regular GreaterEqual = (omega arith, omega arith)
regular Equal = (omega arith, omega arith)
regular NotEqual = (omega arith, omega arith)
regular TextEqual = (omega arith, omega arith)
regular TextNotEqual = (omega arith, omega arith)
regular Member = (omega arith, omega arith)
regular NotMember = (omega arith, omega arith)
regular BitAnd = (omega arith, omega arith)
regular BitXor = (omega arith, omega arith)
regular BitOr = (omega arith, omega arith)
regular And = (omega arith, omega arith)
regular Or = (omega arith, omega arith)
regular Choose = inr refl
regular Abs = tt
regular Int = tt
regular Max = tt
regular Min = tt

pub left_regular : (op : Op) (n : ℕ) → binding op ≡ Leftwards n → (0 < n) × (n < 13)
left_regular op n e = subst Regular e (regular op)

pub right_regular : (op : Op) (n : ℕ) → binding op ≡ Rightwards n → (n ≡ 13) ⊎ (n ≡ 0)
right_regular op n e = subst Regular e (regular op)

-- how an operator with a level on its left groups
pub data Groups (op : Op) (k : ℕ) : Type 0 where
  groups_left : binding op ≡ Leftwards k → Groups op k
  groups_right : (n : ℕ) → binding op ≡ Rightwards n → k ≡ suc n → Groups op k

pub groups : (op : Op) (k : ℕ) → left_level_of op ≡ Some k → Groups op k
groups op k e = go (binding op) refl e
  where
    go : (b : Binding) → binding op ≡ b → left_level b ≡ Some k → Groups op k
    go (Leftwards n) g h = let same : n ≡ k = cc in groups_left (g ∙ ap Leftwards same)
    go (Rightwards n) g h = let same : n + 1 ≡ k = cc in groups_right n g (omega (arith, same))
    go Before g h = let wrong : ⊥ = cc in absurd wrong
    go Called g h = let wrong : ⊥ = cc in absurd wrong

pub choose_or_not : (op : Op) → (op ≡ Choose) ⊎ (op ≢ Choose)
choose_or_not Choose = inl refl
choose_or_not op = inr (λ e. cc)

pub left_binary : (op : Op) (value : PlainValue) → op ≢ Choose → with_left op value ≡ binary op value
left_binary Choose value h = absurd (h refl)
left_binary op value h = refl

pub leftwards_other : (op : Op) (n : ℕ) → binding op ≡ Leftwards n → op ≢ Choose
leftwards_other op n e same = let wrong : Rightwards 0 ≡ Leftwards n = sym (ap binding same) ∙ e in cc

-- ---- reaching a level ----

pub reaches-yes : (k n : ℕ) → k ≤ n → reaches k (Some n) ≡ true
reaches-yes k n h = ap not (le-ltb n k h)

pub reaches-no : (k n : ℕ) → n < k → reaches k (Some n) ≡ false
reaches-no k n h = ap not (lt-ltb n k h)

pub reaches-true : (k n : ℕ) → reaches k (Some n) ≡ true → k ≤ n
reaches-true k n e = go (nat_lt n k) refl
  where
    go : (v : Bool) → nat_lt n k ≡ v → k ≤ n
    go false g = ltb-false n k g
    go true g = let wrong : false ≡ true = sym (ap not g) ∙ e in let no : ⊥ = cc in absurd no

pub reaches-false : (k n : ℕ) → reaches k (Some n) ≡ false → n < k
reaches-false k n e = go (nat_lt n k) refl
  where
    go : (v : Bool) → nat_lt n k ≡ v → n < k
    go true g = ltb-true n k g
    go false g = let wrong : true ≡ false = sym (ap not g) ∙ e in let no : ⊥ = cc in absurd no

-- ---- what nests ----

-- the operand that a tree nested so deeply is
abbrev pub worth : PlainExpr → ℕ → PlainValue
worth expr depth = elim (nat_lt most_nested depth) [ true ↦ too_deep | false ↦ nested expr depth ]

-- operands in a row, the deepest of which is nested so deeply
abbrev pub row_worth : List PlainExpr → ℕ → PlainRow
row_worth exprs depth = elim (nat_lt most_nested depth) [ true ↦ too_deep_row | false ↦ row exprs depth ]

pub worth-in : (expr : PlainExpr) (depth : ℕ) → depth ≤ most_nested → worth expr depth ≡ nested expr depth
worth-in expr depth h = rw (le-ltb most_nested depth h, worth) refl

pub worth-out : (expr : PlainExpr) (depth : ℕ) → most_nested < depth → worth expr depth ≡ too_deep
worth-out expr depth h = rw (lt-ltb most_nested depth h, worth) refl

pub row-in : (exprs : List PlainExpr) (depth : ℕ) → depth ≤ most_nested → row_worth exprs depth ≡ row exprs depth
row-in exprs depth h = rw (le-ltb most_nested depth h, row_worth) refl

pub row-out : (exprs : List PlainExpr) (depth : ℕ) → most_nested < depth → row_worth exprs depth ≡ too_deep_row
row-out exprs depth h = rw (lt-ltb most_nested depth h, row_worth) refl

pub fits_or_not : (depth : ℕ) → (depth ≤ most_nested) ⊎ (most_nested < depth)
fits_or_not depth = go (nat_lt most_nested depth) refl
  where
    go : (v : Bool) → nat_lt most_nested depth ≡ v → (depth ≤ most_nested) ⊎ (most_nested < depth)
    go false e = inl (ltb-false most_nested depth e)
    go true e = inr (ltb-true most_nested depth e)

pub around-worth : (expr : PlainExpr) (depth : ℕ) → depth ≤ most_nested → around expr depth ≡ worth expr (suc depth)
around-worth expr depth h = go (nat_lt depth most_nested) refl
  where
    go : (v : Bool) → nat_lt depth most_nested ≡ v → around expr depth ≡ worth expr (suc depth)
    go true e = let less : depth < most_nested = ltb-true depth most_nested e in rw (e, around) (ap (nested expr) (omega arith) ∙ sym (worth-in expr (suc depth) (omega (arith, less))))
    go false e = let full : most_nested ≤ depth = ltb-false depth most_nested e in rw (e, around) (sym (worth-out expr (suc depth) (omega (arith, full))))

pub parenthesized-worth : (expr : PlainExpr) (depth : ℕ) → parenthesized (worth expr depth) ≡ worth expr (suc depth)
parenthesized-worth expr depth = go (fits_or_not depth)
  where
    go : (depth ≤ most_nested) ⊎ (most_nested < depth) → parenthesized (worth expr depth) ≡ worth expr (suc depth)
    go (inl h) = ap parenthesized (worth-in expr depth h) ∙ around-worth expr depth h
    go (inr h) = ap parenthesized (worth-out expr depth h) ∙ sym (worth-out expr (suc depth) (omega (arith, h)))

pub applied-worth : (op : Op) (exprs : List PlainExpr) (depth : ℕ) → operator_value op (row_worth exprs depth) ≡ worth (node op (in_a_row exprs)) (suc depth)
applied-worth op exprs depth = go (fits_or_not depth)
  where
    go : (depth ≤ most_nested) ⊎ (most_nested < depth) → operator_value op (row_worth exprs depth) ≡ worth (node op (in_a_row exprs)) (suc depth)
    go (inl h) = ap (operator_value op) (row-in exprs depth h) ∙ around-worth (node op (in_a_row exprs)) depth h
    go (inr h) = ap (operator_value op) (row-out exprs depth h) ∙ sym (worth-out (node op (in_a_row exprs)) (suc depth) (omega (arith, h)))

pub followed-worth : (exprs : List PlainExpr) (expr : PlainExpr) (d e : ℕ) →
    followed_by (row_worth exprs d) (worth expr e) ≡ row_worth (exprs ++ expr ∷ []) (max d e)
followed-worth exprs expr d e = go (fits_or_not d) (fits_or_not e)
  where
    go : (d ≤ most_nested) ⊎ (most_nested < d) → (e ≤ most_nested) ⊎ (most_nested < e) →
        followed_by (row_worth exprs d) (worth expr e) ≡ row_worth (exprs ++ expr ∷ []) (max d e)
    go (inl h) (inl g) =
        ap (λ r. followed_by r (worth expr e)) (row-in exprs d h) ∙ ap (followed_by (row exprs d)) (worth-in expr e g)
        ∙ sym (row-in (exprs ++ expr ∷ []) (max d e) (omega (arith, h, g)))
    go (inl h) (inr g) =
        ap (λ r. followed_by r (worth expr e)) (row-in exprs d h) ∙ ap (followed_by (row exprs d)) (worth-out expr e g)
        ∙ sym (row-out (exprs ++ expr ∷ []) (max d e) (omega (arith, h, g)))
    go (inr h) g = ap (λ r. followed_by r (worth expr e)) (row-out exprs d h) ∙ sym (row-out (exprs ++ expr ∷ []) (max d e) (omega (arith, h)))

no-operands : no_operands ≡ row_worth [] 0
no-operands = refl

first-worth : (expr : PlainExpr) (d : ℕ) → followed_by no_operands (worth expr d) ≡ row_worth (expr ∷ []) d
first-worth expr d = ap (λ r. followed_by r (worth expr d)) no-operands ∙ followed-worth [] expr 0 d ∙ ap (row_worth (expr ∷ [])) (omega arith)

pub unary-worth : (op : Op) (a : PlainExpr) (d : ℕ) → value_of_pending (unary op) (worth a d) ≡ worth (node op (more a none)) (suc d)
unary-worth op a d = ap (operator_value op) (first-worth a d) ∙ applied-worth op (a ∷ []) d

second-worth : (a b : PlainExpr) (d e : ℕ) → followed_by (followed_by no_operands (worth a d)) (worth b e) ≡ row_worth (a ∷ b ∷ []) (max d e)
second-worth a b d e = ap (λ r. followed_by r (worth b e)) (first-worth a d) ∙ followed-worth (a ∷ []) b d e

pub binary-worth : (op : Op) (a b : PlainExpr) (d e : ℕ) → value_of_pending (binary op (worth a d)) (worth b e) ≡ worth (node op (more a (more b none))) (suc (max d e))
binary-worth op a b d e = ap (operator_value op) (second-worth a b d e) ∙ applied-worth op (a ∷ b ∷ []) (max d e)

pub branch-worth : (a b c : PlainExpr) (d e f : ℕ) →
    value_of_pending (branch (worth a d) (worth b e)) (worth c f) ≡ worth (node Choose (more a (more b (more c none)))) (suc (max (max d e) f))
branch-worth a b c d e f =
    ap (λ r. operator_value Choose (followed_by r (worth c f))) (second-worth a b d e) ∙ ap (operator_value Choose) (followed-worth (a ∷ b ∷ []) c (max d e) f)
    ∙ applied-worth Choose (a ∷ b ∷ c ∷ []) (max (max d e) f)
