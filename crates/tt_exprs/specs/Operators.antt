-- The one table of operators (expr(n), OPERATORS; mathfunc(n)), and the words for truths (expr(n), OPERANDS).
use Rattle.std.specs.Prelude.{ℕ, ◌+◌, nat_eq, nat_lt, Bool, true, false, ◌==◌, List, [], ◌∷◌, Option, Some, None, codes}
use Rattle.std.specs.Prelude.{find, if◌then◌else◌}
use Rattle.std.specs.List.{list_any, starts_with}
use Rattle.std.specs.Str.{bytes_eq, str_eq_ignore_ascii_case}
use Rattle.tt_exprs.specs.declared.op.Op.{Op}
use Rattle.tt_exprs.specs.declared.op.Op.TheVariants.{Neg, Plus, BitNot, Not, Pow, Mul, Div, Mod, Add, Sub, Shl, Shr}
use Rattle.tt_exprs.specs.declared.op.Op.TheVariants.{Less, Greater, LessEqual, GreaterEqual, Equal, NotEqual}
use Rattle.tt_exprs.specs.declared.op.Op.TheVariants.{TextEqual, TextNotEqual, Member, NotMember, BitAnd, BitXor, BitOr}
use Rattle.tt_exprs.specs.declared.op.Op.TheVariants.{And, Or, Choose, Abs, Int, Max, Min}
use Rattle.tt_exprs.specs.declared.operators.Binding.{Binding}
use Rattle.tt_exprs.specs.declared.operators.Binding.TheVariants.{Before, Leftwards, Rightwards, Called}
use Rattle.tt_exprs.specs.declared.operators.Operands.{Operands}
use Rattle.tt_exprs.specs.declared.operators.Operands.TheVariants.{One, Two, Three, OneOrMore}

-- how an operator is spelled, how it binds (the higher its level, the tighter), and how many operands it has
pub record Row : Type 0 where
  pub spelling : List ℕ
  pub binding : Binding
  pub operands : Operands

abbrev pub row : List ℕ → Binding → Operands → Row
row spelling binding operands = record { spelling = spelling; binding = binding; operands = operands }

-- the table, from high to low
abbrev pub row_of : Op → Row
row_of Neg = row (codes "-") Before One
row_of Plus = row (codes "+") Before One
row_of BitNot = row (codes "~") Before One
row_of Not = row (codes "!") Before One
row_of Pow = row (codes "**") (Rightwards 13) Two
row_of Mul = row (codes "*") (Leftwards 12) Two
row_of Div = row (codes "/") (Leftwards 12) Two
row_of Mod = row (codes "%") (Leftwards 12) Two
row_of Add = row (codes "+") (Leftwards 11) Two
row_of Sub = row (codes "-") (Leftwards 11) Two
row_of Shl = row (codes "<<") (Leftwards 10) Two
row_of Shr = row (codes ">>") (Leftwards 10) Two
row_of Less = row (codes "<") (Leftwards 9) Two
row_of Greater = row (codes ">") (Leftwards 9) Two
row_of LessEqual = row (codes "<=") (Leftwards 9) Two
row_of GreaterEqual = row (codes ">=") (Leftwards 9) Two
row_of Equal = row (codes "==") (Leftwards 8) Two
row_of NotEqual = row (codes "!=") (Leftwards 8) Two
row_of TextEqual = row (codes "eq") (Leftwards 7) Two
row_of TextNotEqual = row (codes "ne") (Leftwards 7) Two
row_of Member = row (codes "in") (Leftwards 6) Two
row_of NotMember = row (codes "ni") (Leftwards 6) Two
row_of BitAnd = row (codes "&") (Leftwards 5) Two
row_of BitXor = row (codes "^") (Leftwards 4) Two
row_of BitOr = row (codes "|") (Leftwards 3) Two
row_of And = row (codes "&&") (Leftwards 2) Two
row_of Or = row (codes "||") (Leftwards 1) Two
row_of Choose = row (codes "?") (Rightwards 0) Three
row_of Abs = row (codes "abs") Called One
row_of Int = row (codes "int") Called One
row_of Max = row (codes "max") Called OneOrMore
row_of Min = row (codes "min") Called OneOrMore

-- ---- what is read from the table ----

-- an operator as it stands in an expression, or a function's name
abbrev pub spelling : Op → List ℕ
spelling op = (row_of op).spelling

-- how it binds
abbrev pub binding : Op → Binding
binding op = (row_of op).binding

-- the level of an operator between operands, or None
abbrev pub level : Binding → Option ℕ
level (Leftwards n) = Some n
level (Rightwards n) = Some n
level Before = None
level Called = None

-- the level that its left operand has at least
abbrev pub left_level : Binding → Option ℕ
left_level (Leftwards n) = Some n
left_level (Rightwards n) = Some (n + 1)
left_level Before = None
left_level Called = None

-- whether there are so many operands
abbrev pub allows : Operands → ℕ → Bool
allows One count = count == 1
allows Two count = count == 2
allows Three count = count == 3
allows OneOrMore count = nat_lt 0 count

-- the operator has so many operands
abbrev pub takes : Op → ℕ → Bool
takes op count = allows (row_of op).operands count

-- whether a function takes more than one operand
abbrev pub takes_more : Op → Bool
takes_more op = allows (row_of op).operands 2

-- ---- spellings ----

-- the operators that are spelled with signs, the longer first; `-` and `+` each stand for two, by their place
abbrev pub sign_operators : List Op
sign_operators =
    Pow ∷ Shl ∷ Shr ∷ LessEqual ∷ GreaterEqual ∷ Equal ∷ NotEqual ∷ And ∷ Or
    ∷ BitNot ∷ Not ∷ Mul ∷ Div ∷ Mod ∷ Add ∷ Sub ∷ Less ∷ Greater ∷ BitAnd ∷ BitXor ∷ BitOr ∷ Choose ∷ []

-- the operators that are spelled with letters
abbrev pub word_operators : List Op
word_operators = TextEqual ∷ TextNotEqual ∷ Member ∷ NotMember ∷ []

-- the functions
abbrev pub functions : List Op
functions = Abs ∷ Int ∷ Max ∷ Min ∷ []

-- the first of these whose spelling a text begins with
abbrev pub first_spelled : List Op → List ℕ → Option Op
first_spelled ops text = find (λ op. starts_with nat_eq text (spelling op)) ops

-- the one of these that is spelled so
abbrev pub spelled_so : List Op → List ℕ → Option Op
spelled_so ops word = find (λ op. bytes_eq word (spelling op)) ops

-- ---- truths ----

-- the words for a truth, which may be written in any case
abbrev pub true_words : List (List ℕ)
true_words = codes "true" ∷ codes "yes" ∷ codes "on" ∷ []

abbrev pub false_words : List (List ℕ)
false_words = codes "false" ∷ codes "no" ∷ codes "off" ∷ []

-- whether a text is one of these words but for the case of its letters
abbrev pub is_one_of : List (List ℕ) → List ℕ → Bool
is_one_of words text = list_any (λ word. str_eq_ignore_ascii_case text word) words

-- the truth that a word says
abbrev pub boolean_word : List ℕ → Option Bool
boolean_word text =
    if is_one_of true_words text then Some true else
    if is_one_of false_words text then Some false else None
