-- The grammar of unsigned whole numbers against the function that reads them.
use Rattle.std.proofs.Common.{◌≡◌, ◌≢◌, ℕ, ◌≤◌, true, false, List, [], ◌∷◌, length, Option, Some, None, refl, ap, subst, inl, inr, arith, ◌==◌}
use Rattle.std.specs.Char.{is_digit}
use Rattle.std.specs.Prelude.{nat_lt}
use Rattle.std.proofs.lemmas.Bool.{cases_Bool, eqb-true, eqb-false, ne_eqb, or_cases, and_parts, both_ways}
use Rattle.std.proofs.lemmas.Bool.Decides.{nat_tests}
use Rattle.tt_number.specs.Numerals.{IsUnsigned, digit_sum, all_digits, is_numeral, number_of, base_and_digits}
use Rattle.tt_number.specs.Numerals.{base_of_mark, after_zero, is_hexadecimal_mark, is_octal_mark, is_binary_mark}
use Rattle.tt_number.specs.Numerals.IsUnsigned.{hexadecimal, octal, binary, leading_zero, decimal}
use Rattle.tt_number.proofs.Reading.Trimming.{not_white, nonempty, is_plain, all_parts, all_from, digits_plain}
use Rattle.tt_number.proofs.Reading.Signs.{is_sign_byte}

pub numeral_digits : (base : ℕ) (digits : List ℕ) → is_numeral base digits ≡ true → all_digits base digits ≡ true
numeral_digits base digits h = (and_parts (nat_lt 0 (length digits)) (all_digits base digits) h).1

-- a digit below ten is no mark and no sign
pub digit_no_mark : (b base : ℕ) → base ≤ 10 → is_digit b base ≡ true → base_of_mark b ≡ None
digit_no_mark b base h d = grind (arith, nat_tests)

pub digit_no_sign : (b base : ℕ) → base ≤ 10 → is_digit b base ≡ true → is_sign_byte b ≡ false
digit_no_sign b base h d = grind (arith, nat_tests)

-- an unsigned number as the function sees it
pub record IsRead (text : List ℕ) (base : ℕ) (digits : List ℕ) : Type 0 where
  pub first : ℕ
  pub rest : List ℕ
  pub begins : text ≡ first ∷ rest
  pub no_sign : is_sign_byte first ≡ false
  pub plain : is_plain text ≡ true
  pub parts : base_and_digits text ≡ (base, digits)
  pub numeral : is_numeral base digits ≡ true

marked : (mark base : ℕ) (digits : List ℕ) → base ≤ 16 → not_white mark ≡ true → base_of_mark mark ≡ Some base → is_numeral base digits ≡ true →
    IsRead (48 ∷ mark ∷ digits) base digits
marked mark base digits small white is h =
    record {
      first =
          48;
      rest = mark ∷ digits;
      begins =
          refl;
      no_sign =
          refl;
      plain =
          all_from not_white mark digits white (digits_plain base digits small (numeral_digits base digits h));
      parts =
          ap (λ o. after_zero o mark digits) is;
      numeral = h;
    }

pub read_unsigned : {text : List ℕ} {base : ℕ} {digits : List ℕ} → IsUnsigned text base digits → IsRead text base digits
read_unsigned (hexadecimal {mark} {digits} m h) =
    elim (or_cases (mark == 120) (mark == 88) m) [
      | inl p ↦ rw (eqb-true mark 120 p) (marked 120 16 digits (omega arith) refl refl h)
      | inr p ↦ rw (eqb-true mark 88 p) (marked 88 16 digits (omega arith) refl refl h)
    ]
read_unsigned (octal {mark} {digits} m h) =
    elim (or_cases (mark == 111) (mark == 79) m) [
      | inl p ↦ rw (eqb-true mark 111 p) (marked 111 8 digits (omega arith) refl refl h)
      | inr p ↦ rw (eqb-true mark 79 p) (marked 79 8 digits (omega arith) refl refl h)
    ]
read_unsigned (binary {mark} {digits} m h) =
    elim (or_cases (mark == 98) (mark == 66) m) [
      | inl p ↦ rw (eqb-true mark 98 p) (marked 98 2 digits (omega arith) refl refl h)
      | inr p ↦ rw (eqb-true mark 66 p) (marked 66 2 digits (omega arith) refl refl h)
    ]
read_unsigned (leading_zero {digits} h) = zero_first digits h
  where
    zero_first : (digits : List ℕ) → is_numeral 8 digits ≡ true → IsRead (48 ∷ digits) 8 digits
    zero_first [] h = absurd (both_ways false refl h)
    zero_first (d ∷ ds) h = let all = numeral_digits 8 (d ∷ ds) h in let none = digit_no_mark d 8 (omega arith) (all_parts (λ digit. is_digit digit 8) d ds all).0 in record { first = 48; rest = d ∷ ds; begins = refl; no_sign = refl; plain = digits_plain 8 (d ∷ ds) (omega arith) all; parts = ap (λ o. after_zero o d ds) none; numeral = h }
read_unsigned (decimal {digit} {digits} h first) = decimal_first digit digits h first
  where
    decimal_first : (d : ℕ) (ds : List ℕ) → is_numeral 10 (d ∷ ds) ≡ true → (d ≡ 48 → ds ≡ []) → IsRead (d ∷ ds) 10 (d ∷ ds)
    decimal_first d [] h first = let all = numeral_digits 10 (d ∷ []) h in record { first = d; rest = []; begins = refl; no_sign = digit_no_sign d 10 (omega arith) (all_parts (λ digit. is_digit digit 10) d [] all).0; plain = digits_plain 10 (d ∷ []) (omega arith) all; parts = refl; numeral = h }
    decimal_first d (m ∷ ds) h first = let all = numeral_digits 10 (d ∷ m ∷ ds) h in let other : d ≢ 48 = λ e. absurd (nonempty m ds (first e)) in record { first = d; rest = m ∷ ds; begins = refl; no_sign = digit_no_sign d 10 (omega arith) (all_parts (λ digit. is_digit digit 10) d (m ∷ ds) all).0; plain = digits_plain 10 (d ∷ m ∷ ds) (omega arith) all; parts = rw (ne_eqb d 48 other) refl; numeral = h }

-- what digits with a number are
number_some : (base : ℕ) (digits : List ℕ) (n : ℕ) → number_of (base, digits) ≡ Some n → (is_numeral base digits ≡ true) × (n ≡ digit_sum base digits)
number_some base digits n h = elim (cases_Bool (is_numeral base digits)) [ inl p ↦ (p, cc (rw p at h)) | inr p ↦ absurd (cc (rw p at h)) ]

-- an unsigned number, from what the function answers
pub record IsFound (text : List ℕ) (n : ℕ) : Type 0 where
  pub base : ℕ
  pub digits : List ℕ
  pub unsigned : IsUnsigned text base digits
  pub value : n ≡ digit_sum base digits

found : (text : List ℕ) (base : ℕ) (digits : List ℕ) (n : ℕ) → number_of (base, digits) ≡ Some n →
    (is_numeral base digits ≡ true → IsUnsigned text base digits) → IsFound text n
found text base digits n h make = let p = number_some base digits n h in record { base = base; digits = digits; unsigned = make p.0; value = p.1 }

after_mark : (mark : ℕ) (ds : List ℕ) (n : ℕ) (o : Option ℕ) → base_of_mark mark ≡ o → number_of (after_zero (base_of_mark mark) mark ds) ≡ Some n →
    number_of (after_zero o mark ds) ≡ Some n
after_mark mark ds n o e h = subst (λ o. number_of (after_zero o mark ds) ≡ Some n) e h

found_after_zero : (mark : ℕ) (ds : List ℕ) (n : ℕ) → number_of (after_zero (base_of_mark mark) mark ds) ≡ Some n → IsFound (48 ∷ mark ∷ ds) n
found_after_zero mark ds n h =
    elim (cases_Bool (is_hexadecimal_mark mark)) [
      | inl p ↦ found (48 ∷ mark ∷ ds) 16 ds n (after_mark mark ds n (Some 16) (rw p refl) h) (λ d. hexadecimal p d)
      | inr p ↦ elim (cases_Bool (is_octal_mark mark)) [
        | inl q ↦ found (48 ∷ mark ∷ ds) 8 ds n (after_mark mark ds n (Some 8) (rw (p, q) refl) h) (λ d. octal q d)
        | inr q ↦ elim (cases_Bool (is_binary_mark mark)) [
          | inl r ↦ found (48 ∷ mark ∷ ds) 2 ds n (after_mark mark ds n (Some 2) (rw (p, q, r) refl) h) (λ d. binary r d)
          | inr r ↦ found (48 ∷ mark ∷ ds) 8 (mark ∷ ds) n (after_mark mark ds n None (rw (p, q, r) refl) h) (λ d. leading_zero d)
        ]
      ]
    ]

pub find_unsigned : (text : List ℕ) (n : ℕ) → number_of (base_and_digits text) ≡ Some n → IsFound text n
find_unsigned [] n h = absurd (both_ways false refl (number_some 10 [] n h).0)
find_unsigned (d ∷ []) n h = found (d ∷ []) 10 (d ∷ []) n h (λ p. decimal p (λ e. refl))
find_unsigned (d ∷ m ∷ ds) n h =
    elim (cases_Bool (d == 48)) [
      | inl p ↦ (let e = eqb-true d 48 p in rw e (found_after_zero m ds n (rw p at h)))
      | inr p ↦ found (d ∷ m ∷ ds) 10 (d ∷ m ∷ ds) n (rw p at h) (λ q. decimal q (λ e. absurd (eqb-false d 48 p e)))
    ]
