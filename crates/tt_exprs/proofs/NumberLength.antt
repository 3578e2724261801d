-- The length that the function finds is that of the longest number.
use Rattle.std.proofs.Common.{◌≡◌, ◌≢◌, ℕ, suc, ◌+◌, ◌<◌, ◌≤◌, Bool, true, false, ◌==◌, List, [], ◌∷◌, ◌++◌, length}
use Rattle.std.proofs.Common.{drop, Some, None, refl, sym, ap, subst, ◌∙◌, inl, inr, append_assoc, arith, length-append}
use Rattle.std.proofs.Common.{ℤ}
use Rattle.std.specs.Prelude.{nat_lt}
use Rattle.std.specs.Char.{is_digit}
use Rattle.std.proofs.lemmas.Bool.{cases_Bool, and_parts, or_cases, lt-ltb, le-ltb, ltb-true, ltb-false, eqb-true, eqb-false, ne_eqb}
use Rattle.std.proofs.lemmas.Bool.Decides.{nat_tests}
use Rattle.std.proofs.lemmas.List.{drop_at}
use Rattle.tt_number.specs.Numerals.{IsFloat, IsSign, all_digits, is_numeral, base_of_mark, is_exponent_mark}
use Rattle.tt_number.specs.Numerals.{is_hexadecimal_mark, is_octal_mark, is_binary_mark}
use Rattle.tt_number.specs.Numerals.IsUnsigned.{hexadecimal, octal, binary, leading_zero, decimal as decimal_digits}
use Rattle.tt_number.specs.Numerals.IsFloat.{pointed, scaled as scaled_float}
use Rattle.tt_number.specs.Numerals.IsSign.{none, plus, minus}
use Rattle.tt_number.proofs.Reading.Trimming.{all_parts, all_from}
use Rattle.tt_number.proofs.Reading.Numbers.{numeral_digits, digit_no_mark, digit_no_sign}
use Rattle.tt_exprs.specs.Tokens.{digit_count, with_digits, exponent_digits, exponent, fraction, decimal, longer, scaled_length, unmarked_length, marked_length, number_length}
use Rattle.tt_exprs.proofs.Runs.{run-front}
use Rattle.tt_exprs.proofs.NumberForms.{IsNumeral, whole_numeral, float_numeral}

-- ---- digits

abbrev pub digit_of : ℕ → ℕ → Bool
digit_of base b = is_digit b base

pub numeral_some : (base : ℕ) (digits : List ℕ) → is_numeral base digits ≡ true → 0 < length digits
numeral_some base digits h = ltb-true 0 (length digits) (and_parts (nat_lt 0 (length digits)) (all_digits base digits) h).0

run-digits : (base : ℕ) (xs ys : List ℕ) → all_digits base xs ≡ true → digit_count base (xs ++ ys) ≡ length xs + digit_count base ys
run-digits base xs ys h = run-front (digit_of base) xs ys h

octal_digit : (b : ℕ) → is_digit b 8 ≡ true → is_digit b 10 ≡ true
octal_digit b h = grind (arith, nat_tests)

octal_digits : (xs : List ℕ) → all_digits 8 xs ≡ true → all_digits 10 xs ≡ true
octal_digits [] h = refl
octal_digits (x ∷ xs) h =
    let parts = all_parts (digit_of 8) x xs h in
    all_from (digit_of 10) x xs (octal_digit x parts.0) (octal_digits xs parts.1)

digits_front : (base : ℕ) (xs ys : List ℕ) → all_digits base (xs ++ ys) ≡ true → all_digits base xs ≡ true
digits_front base [] ys h = refl
digits_front base (x ∷ xs) ys h =
    let parts = all_parts (digit_of base) x (xs ++ ys) h in
    all_from (digit_of base) x xs parts.0 (digits_front base xs ys parts.1)

digits_back : (base : ℕ) (xs ys : List ℕ) → all_digits base (xs ++ ys) ≡ true → all_digits base ys ≡ true
digits_back base [] ys h = h
digits_back base (x ∷ xs) ys h = digits_back base xs ys (all_parts (digit_of base) x (xs ++ ys) h).1

mark_no_digit : (mark : ℕ) → is_exponent_mark mark ≡ true → is_digit mark 10 ≡ false
mark_no_digit mark m = elim (or_cases (mark == 101) (mark == 69) m) [ inl p ↦ rw (eqb-true mark 101 p) refl | inr p ↦ rw (eqb-true mark 69 p) refl ]

mark_no_point : (mark : ℕ) → is_exponent_mark mark ≡ true → (mark == 46) ≡ false
mark_no_point mark m = elim (or_cases (mark == 101) (mark == 69) m) [ inl p ↦ rw (eqb-true mark 101 p) refl | inr p ↦ rw (eqb-true mark 69 p) refl ]

mark_no_base : (mark : ℕ) → is_exponent_mark mark ≡ true → base_of_mark mark ≡ None
mark_no_base mark m = elim (or_cases (mark == 101) (mark == 69) m) [ inl p ↦ rw (eqb-true mark 101 p) refl | inr p ↦ rw (eqb-true mark 69 p) refl ]

pub with_digits-some : (n digits : ℕ) → 0 < digits → with_digits n digits ≡ n + digits
with_digits-some n digits h = rw (lt-ltb 0 digits h, with_digits) refl

-- ---- how the function decides

pub scaled-on : (n m : ℕ) (text : List ℕ) → 0 < m → scaled_length n m text ≡ longer n (m + exponent (drop m text)) text
scaled-on n m text h = let other : (m == 0) ≡ false = ne_eqb m 0 (λ e. absurd (omega (arith, h, e))) in rw (other, scaled_length) refl

pub longer-end : (n end : ℕ) (text : List ℕ) → n < end → longer n end text ≡ end
longer-end n end text h = rw (lt-ltb n end h, longer) refl

pub longer-digits : (n end : ℕ) (text : List ℕ) → end ≤ n → longer n end text ≡ decimal n text
longer-digits n end text h = rw (le-ltb n end h, longer) refl

-- a number after a 0 with a mark, or else
pub number-marked : (text : List ℕ) → 0 < marked_length text → number_length (48 ∷ text) ≡ 1 + marked_length text
number-marked text h = rw (lt-ltb 0 (marked_length text) h, number_length) refl

pub number-zero : (text : List ℕ) → marked_length text ≡ 0 → number_length (48 ∷ text) ≡ unmarked_length (48 ∷ text)
number-zero text h =
    let nothing : nat_lt 0 (marked_length text) ≡ false = ap (nat_lt 0) h in
    rw (nothing, number_length) refl

pub number-other : (b : ℕ) (text : List ℕ) → b ≢ 48 → number_length (b ∷ text) ≡ unmarked_length (b ∷ text)
number-other b text h = rw (ne_eqb b 48 h, number_length) refl

-- ---- no number is longer

-- the second byte is no mark of a base
abbrev pub NoMark : List ℕ → Type 0
NoMark [] = ⊥
NoMark (b ∷ []) = Unit {0}
NoMark (b ∷ mark ∷ text) = base_of_mark mark ≡ None

unmarked_longest : (xs ys : List ℕ) → NoMark xs → length xs ≤ unmarked_length (xs ++ ys) → length xs ≤ number_length (xs ++ ys)
unmarked_longest [] ys m h = absurd m
unmarked_longest (b ∷ mark ∷ xs) ys m h =
    let zero_marked : marked_length (mark ∷ (xs ++ ys)) ≡ 0 = rw (m, marked_length) refl in
    elim (cases_Bool (b == 48)) [
      | inl e ↦ rw (eqb-true b 48 e)
          (rw (number-zero (mark ∷ (xs ++ ys)) zero_marked) (subst (λ c. length (c ∷ mark ∷ xs) ≤ unmarked_length (c ∷ mark ∷ (xs ++ ys))) (eqb-true b 48 e) h))
      | inr e ↦ rw (number-other b (mark ∷ (xs ++ ys)) (eqb-false b 48 e)) h
    ]
unmarked_longest (b ∷ []) ys m h =
    elim (cases_Bool (b == 48)) [
      | inl e ↦
          (let zero : b ≡ 48 = eqb-true b 48 e in
          let plain : 1 ≤ unmarked_length (48 ∷ ys) = subst (λ c. 1 ≤ unmarked_length (c ∷ ys)) zero h in
          rw zero (elim (cases_Bool (nat_lt 0 (marked_length ys))) [
            | inl e2 ↦ (let some = ltb-true 0 (marked_length ys) e2 in omega (arith, number-marked ys some))
            | inr e2 ↦ (let nothing : marked_length ys ≡ 0 = omega (arith, ltb-false 0 (marked_length ys) e2) in omega (arith, number-zero ys nothing, plain))
          ]))
      | inr e ↦ rw (number-other b ys (eqb-false b 48 e)) h
    ]

-- digits alone
pub digits_longest : (xs ys : List ℕ) → all_digits 10 xs ≡ true → 0 < length xs → length xs ≤ decimal (digit_count 10 (xs ++ ys)) (xs ++ ys) →
    length xs ≤ unmarked_length (xs ++ ys)
digits_longest xs ys all some h =
    let text = xs ++ ys in
    let n = digit_count 10 text in
    let m = n + fraction n (drop n text) in
    let count : n ≡ length xs + digit_count 10 ys = run-digits 10 xs ys all in
    let room : 0 < m = omega (arith, count, some) in
    rw (scaled-on n m text room) (elim (cases_Bool (nat_lt n (m + exponent (drop m text)))) [
      | inl more ↦ (let far = ltb-true n (m + exponent (drop m text)) more in rw (longer-end n (m + exponent (drop m text)) text far) (omega (arith, far, count)))
      | inr e ↦ rw (longer-digits n (m + exponent (drop m text)) text (ltb-false n (m + exponent (drop m text)) e)) h
    ])

-- digits with a point among them
fraction-point : (front back ys : List ℕ) → is_numeral 10 (front ++ back) ≡ true → (digit_count 10 (front ++ (46 ∷ (back ++ ys))) ≡ length front)
    × (fraction (length front) (drop (length front) (front ++ (46 ∷ (back ++ ys)))) ≡ 1 + (length back + digit_count 10 ys))
fraction-point front back ys h =
    let all = numeral_digits 10 (front ++ back) h in
    let some : 0 < length front + length back = omega (arith, numeral_some 10 (front ++ back) h, length-append front back) in
    let later : digit_count 10 (back ++ ys) ≡ length back + digit_count 10 ys = run-digits 10 back ys (digits_back 10 front back all) in
    let room : nat_lt 0 (length front + digit_count 10 (back ++ ys)) ≡ true = lt-ltb 0 (length front + digit_count 10 (back ++ ys)) (omega (arith, some, later)) in
    let here : fraction (length front) (46 ∷ (back ++ ys)) ≡ 1 + digit_count 10 (back ++ ys) = rw (room, fraction) refl in (
      run-digits 10 front (46 ∷ (back ++ ys)) (digits_front 10 front back all) ∙ omega arith,
      ap (fraction (length front)) (drop_at front (46 ∷ (back ++ ys)) (length front) refl) ∙ here ∙ omega (arith, later),
    )

-- the mark of an exponent, a sign or none, and digits
exponent-read : {sign : List ℕ} {signed : ℕ → ℤ} (mark : ℕ) (digits ys : List ℕ) → is_exponent_mark mark ≡ true → IsSign sign signed →
    is_numeral 10 digits ≡ true → exponent (mark ∷ (sign ++ (digits ++ ys))) ≡ 1 + (length sign + (length digits + digit_count 10 ys))
exponent-read mark digits ys m s h = rw (m, exponent) (go s digits h (run-digits 10 digits ys (numeral_digits 10 digits h)) (numeral_some 10 digits h))
  where
    go : {sign : List ℕ} {signed : ℕ → ℤ} → IsSign sign signed → (digits : List ℕ) → is_numeral 10 digits ≡ true →
        digit_count 10 (digits ++ ys) ≡ length digits + digit_count 10 ys → 0 < length digits →
        exponent_digits (sign ++ (digits ++ ys)) ≡ 1 + (length sign + (length digits + digit_count 10 ys))
    go none [] h count some = absurd (omega (arith, some))
    go none (d ∷ ds) h count some =
        let no_sign = digit_no_sign d 10 (omega arith) (all_parts (digit_of 10) d ds (numeral_digits 10 (d ∷ ds) h)).0 in
        rw (no_sign, exponent_digits) (with_digits-some 1 (digit_count 10 (d ∷ (ds ++ ys))) (omega (arith, count, some)) ∙ omega (arith, count))
    go plus digits h count some = with_digits-some 2 (digit_count 10 (digits ++ ys)) (omega (arith, count, some)) ∙ omega (arith, count)
    go minus digits h count some = with_digits-some 2 (digit_count 10 (digits ++ ys)) (omega (arith, count, some)) ∙ omega (arith, count)

-- if the digits and the fraction take m bytes, the number goes on to the end of its exponent
past_digits : (text : List ℕ) (n m : ℕ) → digit_count 10 text ≡ n → n + fraction n (drop n text) ≡ m → 0 < m → n < m + exponent (drop m text) →
    unmarked_length text ≡ m + exponent (drop m text)
past_digits text n m count size some far =
    ap (λ k. scaled_length k (k + fraction k (drop k text)) text) count
    ∙ ap (λ k. scaled_length n k text) size
    ∙ scaled-on n m text some
    ∙ longer-end n (m + exponent (drop m text)) text far

pointed_longest : (front back ys : List ℕ) → is_numeral 10 (front ++ back) ≡ true → length (front ++ (46 ∷ back)) ≤ unmarked_length (front ++ (46 ∷ (back ++ ys)))
pointed_longest front back ys h =
    let text = front ++ (46 ∷ (back ++ ys)) in
    let f = fraction-point front back ys h in
    let n = length front in
    let m = length front + (1 + (length back + digit_count 10 ys)) in
    omega (arith, length-append front (46 ∷ back), past_digits text n m f.0 (ap (λ k. n + k) f.1) (omega arith) (omega arith))

scaled_longest : {sign : List ℕ} {signed : ℕ → ℤ} (front : List ℕ) (mark : ℕ) (digits ys : List ℕ) → is_exponent_mark mark ≡ true → IsSign sign signed →
    is_numeral 10 digits ≡ true → (n : ℕ) → digit_count 10 (front ++ (mark ∷ (sign ++ (digits ++ ys)))) ≡ n →
    n + fraction n (drop n (front ++ (mark ∷ (sign ++ (digits ++ ys))))) ≡ length front → n ≤ length front → 0 < length front →
    length (front ++ (mark ∷ (sign ++ digits))) ≤ unmarked_length (front ++ (mark ∷ (sign ++ (digits ++ ys))))
scaled_longest {sign} front mark digits ys m s h n count size low some =
    let text = front ++ (mark ∷ (sign ++ (digits ++ ys))) in
    let rest : drop (length front) text ≡ mark ∷ (sign ++ (digits ++ ys)) = drop_at front (mark ∷ (sign ++ (digits ++ ys))) (length front) refl in
    let e : exponent (drop (length front) text) ≡ 1 + (length sign + (length digits + digit_count 10 ys)) = ap exponent rest ∙ exponent-read mark digits ys m s h in
    let end = past_digits text n (length front) count size some (omega (arith, e, low)) in
    omega (arith, end, e, length-append front (mark ∷ (sign ++ digits)), length-append sign digits)

-- ---- every form

pub appended : (front rest ys : List ℕ) (b : ℕ) → (front ++ (b ∷ rest)) ++ ys ≡ front ++ (b ∷ (rest ++ ys))
appended front rest ys b = append_assoc front (b ∷ rest) ys

no_mark_digits : (xs : List ℕ) → all_digits 10 xs ≡ true → 0 < length xs → NoMark xs
no_mark_digits [] all some = absurd (omega (arith, some))
no_mark_digits (x ∷ []) all some = tt
no_mark_digits (x ∷ y ∷ xs) all some = digit_no_mark y 10 (omega arith) (all_parts (digit_of 10) y xs (all_parts (digit_of 10) x (y ∷ xs) all).1).0

no_mark_point : (front back : List ℕ) → all_digits 10 (front ++ back) ≡ true → NoMark (front ++ (46 ∷ back))
no_mark_point [] [] all = tt
no_mark_point [] (y ∷ ys) all = digit_no_mark y 10 (omega arith) (all_parts (digit_of 10) y ys all).0
no_mark_point (x ∷ []) back all = refl
no_mark_point (x ∷ y ∷ xs) back all =
    digit_no_mark y 10 (omega arith) (all_parts (digit_of 10) y (xs ++ back) (all_parts (digit_of 10) x (y ∷ (xs ++ back)) all).1).0

no_mark_more : (xs ys : List ℕ) (c : ℕ) → NoMark xs → base_of_mark c ≡ None → NoMark (xs ++ (c ∷ ys))
no_mark_more [] ys c m h = absurd m
no_mark_more (x ∷ []) ys c m h = h
no_mark_more (x ∷ y ∷ xs) ys c m h = m

marked_longest : (mark base : ℕ) (digits ys : List ℕ) → base_of_mark mark ≡ Some base → is_numeral base digits ≡ true →
    suc (suc (length digits)) ≤ number_length (48 ∷ mark ∷ (digits ++ ys))
marked_longest mark base digits ys is h =
    let count : digit_count base (digits ++ ys) ≡ length digits + digit_count base ys = run-digits base digits ys (numeral_digits base digits h) in
    let some = numeral_some base digits h in
    let size : marked_length (mark ∷ (digits ++ ys)) ≡ 1 + digit_count base (digits ++ ys) =
    rw (is, marked_length) (with_digits-some 1 (digit_count base (digits ++ ys)) (omega (arith, count, some))) in
    omega (arith, number-marked (mark ∷ (digits ++ ys)) (omega (arith, size)), size, count)

pub hexadecimal_base : (mark : ℕ) → is_hexadecimal_mark mark ≡ true → base_of_mark mark ≡ Some 16
hexadecimal_base mark m = elim (or_cases (mark == 120) (mark == 88) m) [ inl p ↦ rw (eqb-true mark 120 p) refl | inr p ↦ rw (eqb-true mark 88 p) refl ]

pub octal_base : (mark : ℕ) → is_octal_mark mark ≡ true → base_of_mark mark ≡ Some 8
octal_base mark m = elim (or_cases (mark == 111) (mark == 79) m) [ inl p ↦ rw (eqb-true mark 111 p) refl | inr p ↦ rw (eqb-true mark 79 p) refl ]

pub binary_base : (mark : ℕ) → is_binary_mark mark ≡ true → base_of_mark mark ≡ Some 2
binary_base mark m = elim (or_cases (mark == 98) (mark == 66) m) [ inl p ↦ rw (eqb-true mark 98 p) refl | inr p ↦ rw (eqb-true mark 66 p) refl ]

zero_longest : (digits ys : List ℕ) → is_numeral 8 digits ≡ true → suc (length digits) ≤ number_length (48 ∷ (digits ++ ys))
zero_longest [] ys h = absurd (omega (arith, numeral_some 8 [] h))
zero_longest (d ∷ ds) ys h =
    let octal_all = numeral_digits 8 (d ∷ ds) h in
    let no_mark = digit_no_mark d 8 (omega arith) (all_parts (digit_of 8) d ds octal_all).0 in
    let count : digit_count 8 (48 ∷ d ∷ (ds ++ ys)) ≡ suc (suc (length ds)) + digit_count 8 ys = run-digits 8 (48 ∷ d ∷ ds) ys octal_all in
    let all = octal_digits (48 ∷ d ∷ ds) octal_all in
    unmarked_longest (48 ∷ d ∷ ds) ys no_mark (digits_longest (48 ∷ d ∷ ds) ys all (omega arith) (omega (arith, count)))

decimal_longest : (digit : ℕ) (digits ys : List ℕ) → is_numeral 10 (digit ∷ digits) ≡ true → (digit ≡ 48 → digits ≡ []) →
    suc (length digits) ≤ number_length (digit ∷ (digits ++ ys))
decimal_longest digit digits ys h first =
    let all = numeral_digits 10 (digit ∷ digits) h in
    let count : digit_count 10 (digit ∷ (digits ++ ys)) ≡ suc (length digits) + digit_count 10 ys = run-digits 10 (digit ∷ digits) ys all in
    unmarked_longest (digit ∷ digits) ys (no_mark_digits (digit ∷ digits) all (omega arith)) (digits_longest (digit ∷ digits) ys all (omega arith)
    (elim (cases_Bool (digit == 48)) [
      | inl e ↦ at_zero (eqb-true digit 48 e)
      | inr e ↦ rw (e, decimal) (omega (arith, count))
    ]))
  where
    at_zero : digit ≡ 48 → suc (length digits) ≤ decimal (digit_count 10 (digit ∷ (digits ++ ys))) (digit ∷ (digits ++ ys))
    at_zero e = rw (first e, e) (omega arith)

-- no digit begins what an exponent's mark begins
run-mark : (mark : ℕ) (rest : List ℕ) → is_exponent_mark mark ≡ true → digit_count 10 (mark ∷ rest) ≡ 0
run-mark mark rest m = rw (mark_no_digit mark m) refl

fraction-mark : (n mark : ℕ) (rest : List ℕ) → is_exponent_mark mark ≡ true → fraction n (mark ∷ rest) ≡ 0
fraction-mark n mark rest m = rw (mark_no_point mark m, fraction) refl

module _ (mark : ℕ) (sign digits ys : List ℕ) (signed : ℕ → ℤ) (m : is_exponent_mark mark ≡ true) (s : IsSign sign signed) (h : is_numeral 10 digits ≡ true) where
  behind : (front : List ℕ) → (front ++ (mark ∷ (sign ++ digits))) ++ ys ≡ front ++ (mark ∷ (sign ++ (digits ++ ys)))
  behind front = appended front (sign ++ digits) ys mark ∙ ap (λ t. front ++ (mark ∷ t)) (append_assoc sign digits ys)

  scaled_number : (front : List ℕ) (n : ℕ) → NoMark front → digit_count 10 (front ++ (mark ∷ (sign ++ (digits ++ ys)))) ≡ n →
      n + fraction n (drop n (front ++ (mark ∷ (sign ++ (digits ++ ys))))) ≡ length front → n ≤ length front → 0 < length front →
      length (front ++ (mark ∷ (sign ++ digits))) ≤ number_length ((front ++ (mark ∷ (sign ++ digits))) ++ ys)
  scaled_number front n no_mark count size low some =
      unmarked_longest (front ++ (mark ∷ (sign ++ digits))) ys (no_mark_more front (sign ++ digits) mark no_mark (mark_no_base mark m))
      (subst (λ t. length (front ++ (mark ∷ (sign ++ digits))) ≤ unmarked_length t) (sym (behind front))
      (scaled_longest front mark digits ys m s h n count size low some))

  scaled_digits : (front : List ℕ) → is_numeral 10 front ≡ true →
      length (front ++ (mark ∷ (sign ++ digits))) ≤ number_length ((front ++ (mark ∷ (sign ++ digits))) ++ ys)
  scaled_digits front f =
      let all = numeral_digits 10 front f in
      let rest = mark ∷ (sign ++ (digits ++ ys)) in
      let none_more = run-mark mark (sign ++ (digits ++ ys)) m in
      let none_here : fraction (length front) (drop (length front) (front ++ rest)) ≡ 0 =
      ap (fraction (length front)) (drop_at front rest (length front) refl) ∙ fraction-mark (length front) mark (sign ++ (digits ++ ys)) m in
      scaled_number front (length front) (no_mark_digits front all (numeral_some 10 front f)) (run-digits 10 front rest all ∙ omega (arith, none_more))
      (omega (arith, none_here)) (omega arith) (numeral_some 10 front f)

  scaled_pointed : (front back : List ℕ) → is_numeral 10 (front ++ back) ≡ true →
      length ((front ++ (46 ∷ back)) ++ (mark ∷ (sign ++ digits))) ≤ number_length (((front ++ (46 ∷ back)) ++ (mark ∷ (sign ++ digits))) ++ ys)
  scaled_pointed front back f =
      let rest = mark ∷ (sign ++ (digits ++ ys)) in
      let cut : (front ++ (46 ∷ back)) ++ rest ≡ front ++ (46 ∷ (back ++ rest)) = appended front back rest 46 in
      let p = fraction-point front back rest f in
      let none_more = run-mark mark (sign ++ (digits ++ ys)) m in
      let size = length-append front (46 ∷ back) in
      let place : fraction (length front) (drop (length front) ((front ++ (46 ∷ back)) ++ rest)) ≡ 1 + (length back + digit_count 10 rest) =
      ap (λ t. fraction (length front) (drop (length front) t)) cut ∙ p.1 in
      scaled_number (front ++ (46 ∷ back)) (length front) (no_mark_point front back (numeral_digits 10 (front ++ back) f)) (ap (digit_count 10) cut ∙ p.0)
      (omega (arith, place, none_more, size)) (omega (arith, size)) (omega (arith, size))

float_longest : (xs ys : List ℕ) → IsFloat xs → length xs ≤ number_length (xs ++ ys)
float_longest xs ys (pointed p) =
    rw p.spelled
    (unmarked_longest (p.front ++ (46 ∷ p.back)) ys (no_mark_point p.front p.back (numeral_digits 10 (p.front ++ p.back) p.digits))
    (subst (λ t. length (p.front ++ (46 ∷ p.back)) ≤ unmarked_length t) (sym (appended p.front p.back ys 46)) (pointed_longest p.front p.back ys p.digits)))
float_longest xs ys (scaled_float front sign digits mark signed e f is s h) =
    elim f [
      | inl n ↦ rw e (scaled_digits mark sign digits ys signed is s h front n)
      | inr p ↦ rw (e, p.spelled) (scaled_pointed mark sign digits ys signed is s h p.front p.back p.digits)
    ]

pub longest_of : {xs : List ℕ} → IsNumeral xs → (ys : List ℕ) → length xs ≤ number_length (xs ++ ys)
longest_of (whole_numeral (hexadecimal {mark} {digits} m h)) ys = marked_longest mark 16 digits ys (hexadecimal_base mark m) h
longest_of (whole_numeral (octal {mark} {digits} m h)) ys = marked_longest mark 8 digits ys (octal_base mark m) h
longest_of (whole_numeral (binary {mark} {digits} m h)) ys = marked_longest mark 2 digits ys (binary_base mark m) h
longest_of (whole_numeral (leading_zero {digits} h)) ys = zero_longest digits ys h
longest_of (whole_numeral (decimal_digits {digit} {digits} h first)) ys = decimal_longest digit digits ys h first
longest_of (float_numeral {text} f) ys = float_longest text ys f
