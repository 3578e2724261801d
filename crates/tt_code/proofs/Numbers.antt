-- What operators, conditions and results are on numbers that are kept.
use Rattle.std.proofs.Common.{◌≡◌, not, ◌==◌, true, ℤ, List, [], ◌∷◌, ℕ, Ok, sym, ap, ◌∙◌}
use Rattle.std.specs.Prelude.{FitsSigned}
use Rattle.std.specs.Fmt.{signed_decimal}
use Rattle.std.specs.Int.{w64}
use Rattle.std.specs.Int.RustNames.{unsigned_abs}
use Rattle.tt_calls.specs.Outcomes.{fine}
use Rattle.tt_exprs.specs.Apply.{operator_outcome, arithmetic, numbers_answer, outcome_of, takes_numbers}
use Rattle.tt_exprs.specs.Apply.{boolean_by, boolean_of, result_by, result_of, truth_by, truth_of}
use Rattle.tt_exprs.specs.Operators.{takes}
use Rattle.tt_exprs.specs.declared.op.Op.{Op}
use Rattle.tt_exprs.proofs.OnNumbers as numbers
use Rattle.tt_number.proofs.Reading.Decimal.{decimal_law}

pub one_applied : (op : Op) (a n : ℤ) (text : List ℕ) → FitsSigned w64 a → text ≡ signed_decimal a → takes_numbers op ≡ true → takes op 1 ≡ true
    → numbers_answer op (a ∷ []) ≡ Ok n → operator_outcome op (text ∷ []) ≡ fine (signed_decimal n)
one_applied op a n text fits is takes_them count gives =
    ap (λ t. operator_outcome op (t ∷ [])) is ∙ ap outcome_of (numbers.numbers_law op (a ∷ []) (fits, tt) takes_them count ∙ ap arithmetic gives)

pub two_applied : (op : Op) (a b n : ℤ) (text other : List ℕ) → FitsSigned w64 a → FitsSigned w64 b → text ≡ signed_decimal a → other ≡ signed_decimal b
    → takes_numbers op ≡ true → takes op 2 ≡ true → numbers_answer op (a ∷ b ∷ []) ≡ Ok n
    → operator_outcome op (text ∷ other ∷ []) ≡ fine (signed_decimal n)
two_applied op a b n text other fits also is same takes_them count gives =
    ap (λ t. operator_outcome op (t ∷ other ∷ [])) is ∙ ap (λ t. operator_outcome op (signed_decimal a ∷ t ∷ [])) same
    ∙ ap outcome_of (numbers.numbers_law op (a ∷ b ∷ []) (fits, (also, tt)) takes_them count ∙ ap arithmetic gives)

pub number_truth : (n : ℤ) (text : List ℕ) → FitsSigned w64 n → text ≡ signed_decimal n → truth_of text ≡ Ok (not (unsigned_abs n == 0))
unfolding truth_of boolean_of
number_truth n text fits is =
    ap truth_of is ∙ ap (λ r. truth_by (signed_decimal n) (boolean_by (signed_decimal n) r)) (decimal_law n fits)

pub number_result : (n : ℤ) (text : List ℕ) → FitsSigned w64 n → text ≡ signed_decimal n → result_of text ≡ fine text
unfolding result_of
number_result n text fits is = ap result_of is ∙ ap (result_by (signed_decimal n)) (decimal_law n fits) ∙ ap fine (sym is)
