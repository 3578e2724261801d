-- On numbers an operator gives what it gives on their texts.
use Rattle.std.proofs.Common.{◌≡◌, suc, Bool, true, false, not, ◌==◌, ℤ, List, [], ◌∷◌, length, map, Some, Ok, refl, ap, ◌∙◌, arith}
use Rattle.std.specs.Prelude.{FitsSigned}
use Rattle.std.specs.Cmp.Lexicographic.{slice_cmp}
use Rattle.std.specs.Fmt.{signed_decimal}
use Rattle.std.specs.Int.{w64}
use Rattle.std.specs.Int.RustNames.{unsigned_abs}
use Rattle.std.specs.Ordering.{int_cmp, nat_cmp, is_eq, is_ne, is_lt, is_gt, is_le, is_ge}
use Rattle.std.specs.declared.cmp.Ordering.{Ordering}
use Rattle.std.proofs.lemmas.Bool.{eqb-true}
use Rattle.tt_number.specs.Operators.{binary_of, unary_of}
use Rattle.tt_number.specs.declared.operators.NumOp.{NumOp}
use Rattle.tt_number.specs.declared.operators.NumOp.TheVariants as two
use Rattle.tt_number.specs.declared.operators.OneOp.{OneOp}
use Rattle.tt_number.specs.declared.operators.OneOp.TheVariants as one
use Rattle.tt_number.proofs.Reading.Decimal.{decimal_law}
use Rattle.tt_exprs.specs.Operators.{takes}
use Rattle.tt_exprs.specs.Apply.{number_operand, whole_operand, arithmetic, with_one, with_two, on_one_of, on_two_of}
use Rattle.tt_exprs.specs.Apply.{with_whole, wholes, extreme_of, truth_number, comparison_operand, comparand, order_with}
use Rattle.tt_exprs.specs.Apply.{order_of, test_order, boolean_by, boolean_of, negation, negation_of, answer_of}
use Rattle.tt_exprs.specs.Apply.{takes_numbers, numbers_answer, AllFit, NumbersLaw}
use Rattle.tt_exprs.specs.declared.op.Op.{Op}
use Rattle.tt_exprs.specs.declared.op.Op.TheVariants.{Neg, Plus, BitNot, Not, Pow, Mul, Div, Mod, Add, Sub, Shl, Shr}
use Rattle.tt_exprs.specs.declared.op.Op.TheVariants.{Less, Greater, LessEqual, GreaterEqual, Equal, NotEqual, BitAnd}
use Rattle.tt_exprs.specs.declared.op.Op.TheVariants.{BitXor, BitOr, And, Or, Choose, Abs, Int, Max, Min}

-- a number's text is read as it
operand : (op : Op) (n : ℤ) → FitsSigned w64 n → whole_operand op (signed_decimal n) ≡ Ok n
unfolding whole_operand
operand op n fits = ap (number_operand op) (decimal_law n fits)

compared_number : (n : ℤ) → FitsSigned w64 n → comparand (signed_decimal n) ≡ Ok (Some n)
unfolding comparand
compared_number n fits = ap comparison_operand (decimal_law n fits)

number_truth : (n : ℤ) → FitsSigned w64 n → boolean_of (signed_decimal n) ≡ Some (not (unsigned_abs n == 0))
unfolding boolean_of
number_truth n fits = ap (boolean_by (signed_decimal n)) (decimal_law n fits)

on_one : (op : Op) (o : OneOp) (a : ℤ) → FitsSigned w64 a → on_one_of op o (signed_decimal a ∷ []) ≡ arithmetic (unary_of o a)
on_one op o a f = ap (with_one o) (operand op a f)

twice_not : (b : Bool) → not (not b) ≡ b
twice_not true = refl
twice_not false = refl

on_not : (a : ℤ) → FitsSigned w64 a → negation_of (signed_decimal a ∷ []) ≡ Ok (truth_number (unsigned_abs a == 0))
on_not a f = ap (negation (signed_decimal a)) (number_truth a f) ∙ ap (λ b. Ok (truth_number b)) (twice_not (unsigned_abs a == 0))

module _ (a b : ℤ) (f : FitsSigned w64 a) (g : FitsSigned w64 b) where
  on_two : (op : Op) (o : NumOp) → on_two_of op o (signed_decimal a ∷ signed_decimal b ∷ []) ≡ arithmetic (binary_of o a b)
  on_two op o = ap (λ x. with_two o x (whole_operand op (signed_decimal b))) (operand op a f) ∙ ap (with_two o (Ok a)) (operand op b g)

  on_order : (test : Ordering → Bool) → test_order test (order_of (signed_decimal a ∷ signed_decimal b ∷ [])) ≡ Ok (truth_number (test (int_cmp a b)))
  on_order test =
      let texts = slice_cmp nat_cmp (signed_decimal a) (signed_decimal b) in
      ap (λ x. test_order test (order_with x (comparand (signed_decimal b)) texts)) (compared_number a f)
      ∙ ap (λ x. test_order test (order_with (Ok (Some a)) x texts)) (compared_number b g)

all_whole : (op : Op) (numbers : List ℤ) → AllFit numbers → wholes op (map signed_decimal numbers) ≡ Ok numbers
all_whole op [] f = refl
all_whole op (n ∷ numbers) f =
    ap (λ x. with_whole x (wholes op (map signed_decimal numbers))) (operand op n f.0)
    ∙ ap (with_whole (Ok n)) (all_whole op numbers f.1)

one_number : (op : Op) (a : ℤ) → FitsSigned w64 a → takes_numbers op ≡ true → takes op 1 ≡ true →
    answer_of op (signed_decimal a ∷ []) ≡ arithmetic (numbers_answer op (a ∷ []))
one_number Neg a f t c = on_one Neg one.Neg a f
one_number Plus a f t c = on_one Plus one.Plus a f
one_number BitNot a f t c = on_one BitNot one.BitNot a f
one_number Not a f t c = on_not a f
one_number Abs a f t c = on_one Abs one.Abs a f
one_number Int a f t c = on_one Int one.Plus a f
one_number Max a f t c = ap (extreme_of Max) (all_whole Max (a ∷ []) (f, tt))
one_number Min a f t c = ap (extreme_of Min) (all_whole Min (a ∷ []) (f, tt))
one_number op a f t c = let wrong : ⊥ = cc in absurd wrong

two_numbers : (op : Op) (a b : ℤ) → FitsSigned w64 a → FitsSigned w64 b → takes_numbers op ≡ true → takes op 2 ≡ true →
    answer_of op (signed_decimal a ∷ signed_decimal b ∷ []) ≡ arithmetic (numbers_answer op (a ∷ b ∷ []))
two_numbers Pow a b f g t c = on_two a b f g Pow two.Pow
two_numbers Mul a b f g t c = on_two a b f g Mul two.Mul
two_numbers Div a b f g t c = on_two a b f g Div two.Div
two_numbers Mod a b f g t c = on_two a b f g Mod two.Mod
two_numbers Add a b f g t c = on_two a b f g Add two.Add
two_numbers Sub a b f g t c = on_two a b f g Sub two.Sub
two_numbers Shl a b f g t c = on_two a b f g Shl two.Shl
two_numbers Shr a b f g t c = on_two a b f g Shr two.Shr
two_numbers Less a b f g t c = on_order a b f g is_lt
two_numbers Greater a b f g t c = on_order a b f g is_gt
two_numbers LessEqual a b f g t c = on_order a b f g is_le
two_numbers GreaterEqual a b f g t c = on_order a b f g is_ge
two_numbers Equal a b f g t c = on_order a b f g is_eq
two_numbers NotEqual a b f g t c = on_order a b f g is_ne
two_numbers BitAnd a b f g t c = on_two a b f g BitAnd two.BitAnd
two_numbers BitXor a b f g t c = on_two a b f g BitXor two.BitXor
two_numbers BitOr a b f g t c = on_two a b f g BitOr two.BitOr
two_numbers Max a b f g t c = ap (extreme_of Max) (all_whole Max (a ∷ b ∷ []) (f, (g, tt)))
two_numbers Min a b f g t c = ap (extreme_of Min) (all_whole Min (a ∷ b ∷ []) (f, (g, tt)))
two_numbers op a b f g t c = let wrong : ⊥ = cc in absurd wrong

more_numbers : (op : Op) (a b d : ℤ) (numbers : List ℤ) → AllFit (a ∷ b ∷ d ∷ numbers) → takes_numbers op ≡ true →
    takes op (suc (suc (suc (length numbers)))) ≡ true →
    answer_of op (map signed_decimal (a ∷ b ∷ d ∷ numbers)) ≡ arithmetic (numbers_answer op (a ∷ b ∷ d ∷ numbers))
more_numbers Max a b d numbers f t c = ap (extreme_of Max) (all_whole Max (a ∷ b ∷ d ∷ numbers) f)
more_numbers Min a b d numbers f t c = ap (extreme_of Min) (all_whole Min (a ∷ b ∷ d ∷ numbers) f)
more_numbers And a b d numbers f t c = let wrong : ⊥ = cc in absurd wrong
more_numbers Or a b d numbers f t c = let wrong : ⊥ = cc in absurd wrong
more_numbers Choose a b d numbers f t c = let wrong : ⊥ = cc in absurd wrong
more_numbers op a b d numbers f t c = absurd (omega (arith, eqb-true _ _ c))

no_numbers : (op : Op) → takes_numbers op ≡ true → takes op 0 ≡ true → ⊥
no_numbers Neg t c = cc
no_numbers op t c = cc

pub numbers_law : NumbersLaw
numbers_law op [] f t c = absurd (no_numbers op t c)
numbers_law op (a ∷ []) f t c = one_number op a f.0 t c
numbers_law op (a ∷ b ∷ []) f t c = two_numbers op a b f.0 f.1.0 t c
numbers_law op (a ∷ b ∷ d ∷ numbers) f t c = more_numbers op a b d numbers f t c
