-- What operators and functions give on the texts of their operands (expr(n), Operators; mathfunc(n)).
use Rattle.std.specs.Prelude.{◌≡◌, ℕ, Bool, true, false, not, ◌==◌, ℤ, pos, List, [], ◌∷◌, fold, length, map}
use Rattle.std.specs.Prelude.{FitsSigned, bytes_eq, Option, Some, None, Result, Ok, Err}
use Rattle.std.specs.Cmp.Lexicographic.{slice_cmp}
use Rattle.std.specs.Fmt.{signed_decimal}
use Rattle.std.specs.Int.{w64}
use Rattle.std.specs.Int.RustNames.{unsigned_abs}
use Rattle.std.specs.List.{list_any}
use Rattle.std.specs.Ordering.{int_cmp, nat_cmp, is_eq, is_ne, is_lt, is_gt, is_le, is_ge, ord_max, ord_min}
use Rattle.std.specs.declared.cmp.Ordering.{Ordering}
use Rattle.tt_calls.specs.Outcomes.{fine, error_outcome}
use Rattle.tt_calls.specs.declared.outcome.Outcome.{Outcome}
use Rattle.tt_lists.specs.Reading.{split_of}
use Rattle.tt_lists.specs.declared.items.Split.{Split}
use Rattle.tt_lists.specs.declared.items.Split.TheVariants.{Items, Bad}
use Rattle.tt_number.specs.Messages.{number_message}
use Rattle.tt_number.specs.Numerals.{whole_of}
use Rattle.tt_number.specs.Operators.{binary_of, unary_of}
use Rattle.tt_number.specs.declared.numeral.NumberFault.{NumberFault}
use Rattle.tt_number.specs.declared.numeral.NumberFault.TheVariants as number
use Rattle.tt_number.specs.declared.operators.ArithFault.{ArithFault}
use Rattle.tt_number.specs.declared.operators.NumOp.{NumOp}
use Rattle.tt_number.specs.declared.operators.NumOp.TheVariants as two
use Rattle.tt_number.specs.declared.operators.OneOp.{OneOp}
use Rattle.tt_number.specs.declared.operators.OneOp.TheVariants as one
use Rattle.tt_exprs.specs.ApplyMessages.{boolean_message, message_of}
use Rattle.tt_exprs.specs.Operators.{boolean_word, takes}
use Rattle.tt_exprs.specs.declared.op.Op.{Op}
use Rattle.tt_exprs.specs.declared.op.Op.TheVariants.{Neg, Plus, BitNot, Not, Pow, Mul, Div, Mod, Add, Sub, Shl, Shr}
use Rattle.tt_exprs.specs.declared.op.Op.TheVariants.{Less, Greater, LessEqual, GreaterEqual, Equal, NotEqual}
use Rattle.tt_exprs.specs.declared.op.Op.TheVariants.{TextEqual, TextNotEqual, Member, NotMember, BitAnd, BitXor, BitOr}
use Rattle.tt_exprs.specs.declared.op.Op.TheVariants.{And, Or, Choose, Abs, Int, Max, Min}
use Rattle.tt_exprs.specs.declared.applying.refusal.Refusal.{Refusal}
use Rattle.tt_exprs.specs.declared.applying.refusal.Refusal.TheVariants.{NotNumeric, TooLarge, Float, Arith, NotBoolean}
use Rattle.tt_exprs.specs.declared.applying.refusal.Refusal.TheVariants.{NotList}

-- ---- operands

-- an operator that evaluates only those of its operands that it needs
abbrev pub is_lazy : Op → Bool
is_lazy And = true
is_lazy Or = true
is_lazy Choose = true
is_lazy op = false

-- the first operand
abbrev pub first : List (List ℕ) → List ℕ
first [] = []
first (a ∷ operands) = a

-- the operand after it
abbrev pub second : List (List ℕ) → List ℕ
second [] = []
second (a ∷ []) = []
second (a ∷ b ∷ operands) = b

-- ---- arithmetic

-- an operand that has to be a whole number, or why it is none
abbrev pub number_operand : Op → Result ℤ NumberFault → Result ℤ Refusal
number_operand op (Ok n) = Ok n
number_operand op (Err number.NotWhole) = Err (NotNumeric op)
number_operand op (Err number.TooLarge) = Err TooLarge
number_operand op (Err number.Float) = Err Float

-- what an operand is read as, if it has to be a whole number (expr(n), Operands)
unfoldable pub whole_operand : Op → List ℕ → Result ℤ Refusal
whole_operand op text = number_operand op (whole_of text)

-- what an operator on numbers gives
abbrev pub arithmetic : Result ℤ ArithFault → Result ℤ Refusal
arithmetic (Ok n) = Ok n
arithmetic (Err fault) = Err (Arith fault)

-- an operator on one number
abbrev pub with_one : OneOp → Result ℤ Refusal → Result ℤ Refusal
with_one operator (Ok a) = arithmetic (unary_of operator a)
with_one operator (Err refusal) = Err refusal

-- the left operand is tested first
abbrev pub with_two : NumOp → Result ℤ Refusal → Result ℤ Refusal → Result ℤ Refusal
with_two operator (Err refusal) b = Err refusal
with_two operator (Ok a) (Err refusal) = Err refusal
with_two operator (Ok a) (Ok b) = arithmetic (binary_of operator a b)

-- the operators `- + ~`, and the functions abs and int
abbrev pub on_one_of : Op → OneOp → List (List ℕ) → Result ℤ Refusal
on_one_of op operator operands = with_one operator (whole_operand op (first operands))

-- the operators `** * / % + - << >> & ^ |`
abbrev pub on_two_of : Op → NumOp → List (List ℕ) → Result ℤ Refusal
on_two_of op operator operands =
    with_two operator (whole_operand op (first operands)) (whole_operand op (second operands))

-- ---- max and min

-- a first operand's number before those of the later ones; the first is tested first
abbrev pub with_whole : Result ℤ Refusal → Result (List ℤ) Refusal → Result (List ℤ) Refusal
with_whole (Err refusal) numbers = Err refusal
with_whole (Ok n) (Err refusal) = Err refusal
with_whole (Ok n) (Ok numbers) = Ok (n ∷ numbers)

-- the operands' numbers, or what is wrong with the first that is not whole
abbrev pub wholes : Op → List (List ℕ) → Result (List ℤ) Refusal
wholes op [] = Ok []
wholes op (a ∷ operands) = with_whole (whole_operand op a) (wholes op operands)

-- which of two numbers `min` or `max` gives
abbrev pub extreme_number : Op → ℤ → ℤ → ℤ
extreme_number Min a b = ord_min int_cmp a b
extreme_number op a b = ord_max int_cmp a b

-- the least of the numbers for `min`, and the greatest for `max`; there is one at least
abbrev pub extreme_of : Op → Result (List ℤ) Refusal → Result ℤ Refusal
extreme_of op (Err refusal) = Err refusal
extreme_of op (Ok []) = Ok (pos 0)
extreme_of op (Ok (n ∷ numbers)) = Ok (fold (extreme_number op) n numbers)

-- ---- tests

-- the number of a truth: 1 or 0
abbrev pub truth_number : Bool → ℤ
truth_number true = pos 1
truth_number false = pos 0

-- the answer of `in`, by whether the operand is an item
abbrev pub truth_answer : Result Bool Refusal → Result ℤ Refusal
truth_answer (Ok truth) = Ok (truth_number truth)
truth_answer (Err refusal) = Err refusal

-- the answer of `ni`, likewise
abbrev pub opposite_answer : Result Bool Refusal → Result ℤ Refusal
opposite_answer (Ok truth) = Ok (truth_number (not truth))
opposite_answer (Err refusal) = Err refusal

-- what an operand of a comparison is: a whole number, or a text alone
abbrev pub comparison_operand : Result ℤ NumberFault → Result (Option ℤ) Refusal
comparison_operand (Ok n) = Ok (Some n)
comparison_operand (Err number.NotWhole) = Ok None
comparison_operand (Err number.TooLarge) = Err TooLarge
comparison_operand (Err number.Float) = Err Float

-- what an operand of a comparison is read as
unfoldable pub comparand : List ℕ → Result (Option ℤ) Refusal
comparand text = comparison_operand (whole_of text)

-- as numbers if both are whole, else as texts
abbrev pub order_by : Option ℤ → Option ℤ → Ordering → Ordering
order_by (Some a) (Some b) texts = int_cmp a b
order_by (Some a) None texts = texts
order_by None b texts = texts

-- the left operand is tested first
abbrev pub order_with : Result (Option ℤ) Refusal → Result (Option ℤ) Refusal → Ordering → Result Ordering Refusal
order_with (Err refusal) b texts = Err refusal
order_with (Ok a) (Err refusal) texts = Err refusal
order_with (Ok a) (Ok b) texts = Ok (order_by a b texts)

-- how two operands compare
abbrev pub order_of : List (List ℕ) → Result Ordering Refusal
order_of operands =
    order_with
    (comparand (first operands))
    (comparand (second operands))
    (slice_cmp nat_cmp (first operands) (second operands))

-- one of `< > <= >= == !=`, by the orders at which it holds
abbrev pub test_order : (Ordering → Bool) → Result Ordering Refusal → Result ℤ Refusal
test_order test (Ok order) = Ok (truth_number (test order))
test_order test (Err refusal) = Err refusal

-- whether two operands are the same text, by their bytes
abbrev pub is_same_text : List (List ℕ) → Bool
is_same_text operands = bytes_eq (first operands) (second operands)

-- whether a text is one of the items
abbrev pub is_item : List ℕ → List (List ℕ) → Bool
is_item text items = list_any (λ item. bytes_eq item text) items

-- by what the list is split into
abbrev pub is_member_by : List ℕ → Split → Result Bool Refusal
is_member_by text (Items items) = Ok (is_item text items)
is_member_by text (Bad fault) = Err (NotList fault)

-- the first operand is an item of the second, a list
abbrev pub is_member_of : List (List ℕ) → Result Bool Refusal
is_member_of operands = is_member_by (first operands) (split_of (second operands))

-- ---- boolean values

-- by what a text is read as as a number
abbrev pub boolean_by : List ℕ → Result ℤ NumberFault → Option Bool
boolean_by text (Ok n) = Some (not (unsigned_abs n == 0))
boolean_by text (Err fault) = boolean_word text

-- a boolean value: a whole number, of which 0 is false, or a boolean word
unfoldable pub boolean_of : List ℕ → Option Bool
boolean_of text = boolean_by text (whole_of text)

-- the operator `!`, by the boolean value of its operand
abbrev pub negation : List ℕ → Option Bool → Result ℤ Refusal
negation text (Some truth) = Ok (truth_number (not truth))
negation text None = Err (NotBoolean text)

-- the operator `!` (expr(n), Operators)
abbrev pub negation_of : List (List ℕ) → Result ℤ Refusal
negation_of operands = negation (first operands) (boolean_of (first operands))

-- ---- operators

-- what an operator or a function gives: a whole number, or why there is none (expr(n), Operators; mathfunc(n))
abbrev pub answer_of : Op → List (List ℕ) → Result ℤ Refusal
answer_of Neg t = on_one_of Neg one.Neg t
answer_of Plus t = on_one_of Plus one.Plus t
answer_of BitNot t = on_one_of BitNot one.BitNot t
answer_of Not t = negation_of t
answer_of Pow t = on_two_of Pow two.Pow t
answer_of Mul t = on_two_of Mul two.Mul t
answer_of Div t = on_two_of Div two.Div t
answer_of Mod t = on_two_of Mod two.Mod t
answer_of Add t = on_two_of Add two.Add t
answer_of Sub t = on_two_of Sub two.Sub t
answer_of Shl t = on_two_of Shl two.Shl t
answer_of Shr t = on_two_of Shr two.Shr t
answer_of Less t = test_order is_lt (order_of t)
answer_of Greater t = test_order is_gt (order_of t)
answer_of LessEqual t = test_order is_le (order_of t)
answer_of GreaterEqual t = test_order is_ge (order_of t)
answer_of Equal t = test_order is_eq (order_of t)
answer_of NotEqual t = test_order is_ne (order_of t)
answer_of TextEqual t = Ok (truth_number (is_same_text t))
answer_of TextNotEqual t = Ok (truth_number (not (is_same_text t)))
answer_of Member t = truth_answer (is_member_of t)
answer_of NotMember t = opposite_answer (is_member_of t)
answer_of BitAnd t = on_two_of BitAnd two.BitAnd t
answer_of BitXor t = on_two_of BitXor two.BitXor t
answer_of BitOr t = on_two_of BitOr two.BitOr t
answer_of Abs t = on_one_of Abs one.Abs t
answer_of Int t = on_one_of Int one.Plus t
answer_of Max t = extreme_of Max (wholes Max t)
answer_of Min t = extreme_of Min (wholes Min t)
-- a lazy operator is never applied
answer_of op t = Ok (pos 0)

-- a number in decimal, or the message of the error
abbrev pub outcome_of : Result ℤ Refusal → Outcome
outcome_of (Ok n) = fine (signed_decimal n)
outcome_of (Err refusal) = error_outcome (message_of refusal)

-- what an operator comes to
abbrev pub operator_outcome : Op → List (List ℕ) → Outcome
operator_outcome op operands = outcome_of (answer_of op operands)

-- ---- conditions and whole expressions

-- by whether a text is a boolean value
abbrev pub truth_by : List ℕ → Option Bool → Result Bool (List ℕ)
truth_by text (Some truth) = Ok truth
truth_by text None = Err (boolean_message text)

-- the truth of a condition, or of an operand of `&& || ?`; or the message of its error (expr(n), Operators)
unfoldable pub truth_of : List ℕ → Result Bool (List ℕ)
truth_of text = truth_by text (boolean_of text)

-- by what a value is read as as a number
abbrev pub result_by : List ℕ → Result ℤ NumberFault → Outcome
result_by value (Ok n) = fine (signed_decimal n)
result_by value (Err number.NotWhole) = fine value
result_by value (Err number.TooLarge) = error_outcome (number_message number.TooLarge value)
result_by value (Err number.Float) = error_outcome (number_message number.Float value)

-- the result of a whole expression that has this value: a whole number in decimal, a text that is none as it stands;
-- a number past 64 bits and a float are errors
unfoldable pub result_of : List ℕ → Outcome
result_of value = result_by value (whole_of value)

-- ---- operators on numbers

-- the operator takes its operands as numbers where they are: all but those that evaluate what they need alone, and
-- `eq ne in ni`, which take texts
abbrev pub takes_numbers : Op → Bool
takes_numbers And = false
takes_numbers Or = false
takes_numbers Choose = false
takes_numbers TextEqual = false
takes_numbers TextNotEqual = false
takes_numbers Member = false
takes_numbers NotMember = false
takes_numbers op = true

-- what it gives on one number, or on two
abbrev pub on_numbers : Op → ℤ → ℤ → Result ℤ ArithFault
on_numbers Neg a b = unary_of one.Neg a
on_numbers Plus a b = unary_of one.Plus a
on_numbers BitNot a b = unary_of one.BitNot a
on_numbers Not a b = Ok (truth_number (unsigned_abs a == 0))
on_numbers Pow a b = binary_of two.Pow a b
on_numbers Mul a b = binary_of two.Mul a b
on_numbers Div a b = binary_of two.Div a b
on_numbers Mod a b = binary_of two.Mod a b
on_numbers Add a b = binary_of two.Add a b
on_numbers Sub a b = binary_of two.Sub a b
on_numbers Shl a b = binary_of two.Shl a b
on_numbers Shr a b = binary_of two.Shr a b
on_numbers Less a b = Ok (truth_number (is_lt (int_cmp a b)))
on_numbers Greater a b = Ok (truth_number (is_gt (int_cmp a b)))
on_numbers LessEqual a b = Ok (truth_number (is_le (int_cmp a b)))
on_numbers GreaterEqual a b = Ok (truth_number (is_ge (int_cmp a b)))
on_numbers Equal a b = Ok (truth_number (is_eq (int_cmp a b)))
on_numbers NotEqual a b = Ok (truth_number (is_ne (int_cmp a b)))
on_numbers BitAnd a b = binary_of two.BitAnd a b
on_numbers BitXor a b = binary_of two.BitXor a b
on_numbers BitOr a b = binary_of two.BitOr a b
on_numbers Abs a b = unary_of one.Abs a
on_numbers Int a b = unary_of one.Plus a
on_numbers op a b = Ok a

-- what it gives on its numbers, of which there are as many as it takes
abbrev pub numbers_answer : Op → List ℤ → Result ℤ ArithFault
numbers_answer op [] = Ok (pos 0)
numbers_answer Max (n ∷ numbers) = Ok (fold (extreme_number Max) n numbers)
numbers_answer Min (n ∷ numbers) = Ok (fold (extreme_number Min) n numbers)
numbers_answer op (a ∷ []) = on_numbers op a a
numbers_answer op (a ∷ b ∷ numbers) = on_numbers op a b

-- numbers of 64 bits
abbrev pub AllFit : List ℤ → Type 0
AllFit [] = Unit {0}
AllFit (n ∷ numbers) = FitsSigned w64 n × AllFit numbers

-- on numbers an operator gives what it gives on their texts
abbrev pub NumbersLaw : Type 0
NumbersLaw =
    (op : Op) (numbers : List ℤ) →
    AllFit numbers →
    takes_numbers op ≡ true →
    takes op (length numbers) ≡ true →
    answer_of op (map signed_decimal numbers) ≡ arithmetic (numbers_answer op numbers)
