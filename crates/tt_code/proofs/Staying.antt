-- What leaves a number as it is that is the newest value.
use Rattle.std.proofs.Common.{◌≡◌, ◌==◌, not, ℕ, ℤ, pos, List, ◌∷◌, Ok, drop, refl, sym, ap, ◌∙◌, arith}
use Rattle.std.specs.Prelude.{FitsSigned}
use Rattle.std.specs.Fmt.{signed_decimal}
use Rattle.std.specs.Int.{w64}
use Rattle.std.specs.Int.RustNames.{unsigned_abs}
use Rattle.std.proofs.lemmas.Fmt.{decimal_digit}
use Rattle.tt_code.specs.Code.{Next, act}
use Rattle.tt_code.specs.Needs.{bit, unless_failed, with_truth}
use Rattle.tt_code.specs.declared.code.Instruction.{Instruction}
use Rattle.tt_code.specs.declared.code.Instruction.TheVariants as code
use Rattle.tt_code.proofs.Numbers.{number_result, number_truth}

module _ (n : ℤ) (vs : List (List ℕ)) (fits : FitsSigned w64 n) (is : vs ≡ signed_decimal n ∷ drop 1 vs) (next : Next) where
  pub result_stays : (i : Instruction) → i ≡ code.Result → act i next vs ≡ next 0 vs
  result_stays i same =
      ap (λ (j : Instruction). act j next vs) same
      ∙ ap (act code.Result next) is
      ∙ ap (λ outcome. unless_failed outcome (λ r. next 0 (r ∷ drop 1 vs))) (number_result n (signed_decimal n) fits refl)
      ∙ ap (next 0) (sym is)

  pub truth_zero : (i : Instruction) → i ≡ code.Truth → n ≡ pos 0 → act i next vs ≡ next 0 vs
  truth_zero i same zero =
      ap (λ (j : Instruction). act j next vs) same
      ∙ ap (act code.Truth next) is
      ∙ ap (λ truth. with_truth truth (λ t. next 0 (bit t ∷ drop 1 vs)))
      (number_truth n (signed_decimal n) fits refl ∙ ap (λ m. Ok (not (unsigned_abs m == 0))) zero)
      ∙ ap (λ d. next 0 (d ∷ drop 1 vs)) (sym (ap signed_decimal zero ∙ decimal_digit 0 (omega arith)))
      ∙ ap (next 0) (sym is)

  pub truth_one : (i : Instruction) → i ≡ code.Truth → n ≡ pos 1 → act i next vs ≡ next 0 vs
  truth_one i same one =
      ap (λ (j : Instruction). act j next vs) same
      ∙ ap (act code.Truth next) is
      ∙ ap (λ truth. with_truth truth (λ t. next 0 (bit t ∷ drop 1 vs)))
      (number_truth n (signed_decimal n) fits refl ∙ ap (λ m. Ok (not (unsigned_abs m == 0))) one)
      ∙ ap (λ d. next 0 (d ∷ drop 1 vs)) (sym (ap signed_decimal one ∙ decimal_digit 1 (omega arith)))
      ∙ ap (next 0) (sym is)
