-- The decimal text of a number is read as that number.
use Rattle.std.proofs.Common.{◌≡◌, ℕ, suc, ◌^◌, ◌<◌, true, ℤ, pos, negsuc, neg_ℤ, List, [], ◌∷◌, ◌++◌, length, Ok, refl}
use Rattle.std.proofs.Common.{sym, ap, subst, ◌∙◌, inl, inr, arith, append-nil}
use Rattle.std.specs.Fmt.{decimal, signed_decimal}
use Rattle.std.specs.Int.{w64}
use Rattle.std.specs.Int.RustNames.{FitsSigned}
use Rattle.std.specs.Prelude.{nat_lt}
use Rattle.std.specs.Char.{is_digit}
use Rattle.std.specs.Str.Parse.{AllDigits, digits_value}
use Rattle.std.proofs.lemmas.Bool.{lt-ltb, and_from, cases_eq}
use Rattle.std.proofs.lemmas.Fmt.{decimal_nonempty, decimal_digit, first_decimal, digits_decimal, digits_value-decimal}
use Rattle.std.proofs.lemmas.Str.Parse.{IsNumeralModel, numerals_by_value, tells_digits}
use Rattle.tt_number.specs.Numerals.{DecimalLaw, IsUnsigned, IsSigned, Spells, all_digits, digit_sum}
use Rattle.tt_number.specs.Numerals.IsUnsigned.{decimal as by_decimal}
use Rattle.tt_number.specs.Numerals.IsSign.{none, minus}
use Rattle.tt_number.proofs.Digits.{digit_sum_is}
use Rattle.tt_number.proofs.Reading.Law.{reading_law}

all_from_AllDigits : (digits : List ℕ) → AllDigits 10 digits → all_digits 10 digits ≡ true
all_from_AllDigits [] h = refl
all_from_AllDigits (d ∷ ds) h = and_from (is_digit d 10) (all_digits 10 ds) (lt-ltb _ 10 h.0) (all_from_AllDigits ds h.1)

own : IsNumeralModel (AllDigits 10) (digits_value 10)
own = numerals_by_value (AllDigits 10) tells_digits

unsigned : (n : ℕ) → n < 2 ^ 64 → IsUnsigned (decimal n) 10 (decimal n)
unsigned n small = go (decimal n) refl
  where
    zero_alone : (d : ℕ) (rest : List ℕ) → decimal n ≡ d ∷ rest → d ≡ 48 → rest ≡ []
    zero_alone d rest e is =
        elim (cases_eq n 0) [
          | inl z ↦ (let whole : 48 ∷ [] ≡ d ∷ rest = sym (decimal_digit 0 (omega arith)) ∙ sym (ap decimal z) ∙ e in cc)
          | inr z ↦ (let first = rw e at (first_decimal n (omega arith) small) in absurd (omega (arith, first)))
        ]

    go : (digits : List ℕ) → decimal n ≡ digits → IsUnsigned digits 10 digits
    go [] e = absurd (omega (arith, decimal_nonempty n small, ap length e))
    go (d ∷ rest) e =
        by_decimal (and_from (nat_lt 0 (length (d ∷ rest))) (all_digits 10 (d ∷ rest)) (lt-ltb 0 (length (d ∷ rest)) (omega arith))
        (all_from_AllDigits (d ∷ rest) (subst (AllDigits 10) e (digits_decimal own n small)))) (zero_alone d rest e)

value : (n : ℕ) → n < 2 ^ 64 → digit_sum 10 (decimal n) ≡ n
value n small = sym (digit_sum_is 10 (decimal n)) ∙ digits_value-decimal own n small

form : (sign digits : List ℕ) → IsSigned (sign ++ digits) sign digits
form sign digits = record { before = []; after = []; spelled = ap (λ t. sign ++ t) (sym (append-nil digits)); white_before = refl; white_after = refl }

spells : (number : ℤ) → FitsSigned w64 number → Spells (signed_decimal number) number
spells (pos n) fits = let small : n < 2 ^ 64 = omega (arith, fits.sfits) in record { sign = []; unsigned = decimal n; digits = decimal n; base = 10; signed = pos; form = form [] (decimal n); has_sign = none; has_digits = unsigned n small; value = ap pos (sym (value n small)) }
spells (negsuc n) fits = let small : suc n < 2 ^ 64 = omega (arith, fits.sfits) in record { sign = 45 ∷ []; unsigned = decimal (suc n); digits = decimal (suc n); base = 10; signed = λ n. neg_ℤ (pos n); form = form (45 ∷ []) (decimal (suc n)); has_sign = minus; has_digits = unsigned (suc n) small; value = ap (λ n. neg_ℤ (pos n)) (sym (value (suc n) small)) }

pub decimal_law : DecimalLaw
decimal_law number fits = (reading_law (signed_decimal number) (Ok number)).1 (spells number fits, fits)
