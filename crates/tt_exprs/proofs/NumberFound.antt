-- What the function takes as a number is one.
use Rattle.std.proofs.Common.{◌≡◌, ◌≢◌, ℕ, zero, suc, ◌+◌, ◌<◌, true, false, ◌||◌, ◌==◌, List, [], ◌∷◌, ◌++◌, length}
use Rattle.std.proofs.Common.{take, drop, Option, Some, None, refl, sym, ap, subst, ◌∙◌, inl, inr, ◌⊎◌, append_assoc}
use Rattle.std.proofs.Common.{arith, length-append, ℤ, pos}
use Rattle.std.specs.Prelude.{nat_lt}
use Rattle.std.specs.Char.{is_digit}
use Rattle.std.proofs.lemmas.Bool.{cases_Bool, and_from, or_cases, lt-ltb, ltb-true, ltb-false, eqb-true, eqb-false}
use Rattle.std.proofs.lemmas.List.Folds.{length-prefix_len, list_all-append}
use Rattle.std.proofs.lemmas.List.{drop_at, take-append-drop}
use Rattle.tt_number.specs.Numerals.{IsUnsigned, IsPointed, IsSign, all_digits, is_numeral, base_of_mark}
use Rattle.tt_number.specs.Numerals.{is_exponent_mark, is_hexadecimal_mark, is_octal_mark, is_binary_mark}
use Rattle.tt_number.specs.Numerals.IsUnsigned.{hexadecimal, octal, binary, leading_zero, decimal as decimal_digits}
use Rattle.tt_number.specs.Numerals.IsFloat.{pointed, scaled as scaled_float}
use Rattle.tt_number.specs.Numerals.IsSign.{none, plus, minus}
use Rattle.tt_exprs.specs.Tokens.{digit_count, with_digits, exponent_digits, exponent, fraction, decimal, longer, scaled_length, unmarked_length, marked_length, number_length}
use Rattle.tt_exprs.proofs.Runs.{run-kind}
use Rattle.tt_exprs.proofs.NumberForms.{IsNumeral, whole_numeral, float_numeral}
use Rattle.tt_exprs.proofs.NumberLength.{digit_of, with_digits-some, scaled-on, longer-end, longer-digits, number-marked, number-zero, number-other, appended}

-- the digits at the front are a numeral, if there are any
run-numeral : (base : ℕ) (text : List ℕ) → 0 < digit_count base text → is_numeral base (take (digit_count base text) text) ≡ true
run-numeral base text h =
    and_from (nat_lt 0 (length (take (digit_count base text) text))) (all_digits base (take (digit_count base text) text))
    (lt-ltb 0 (length (take (digit_count base text) text)) (omega (arith, h, length-prefix_len (digit_of base) text)))
    (run-kind (digit_of base) text)

cut_run : (base : ℕ) (text : List ℕ) → text ≡ take (digit_count base text) text ++ drop (digit_count base text) text
cut_run base text = sym (take-append-drop (digit_count base text) text)

run-length : (base : ℕ) (text : List ℕ) → length (take (digit_count base text) text) ≡ digit_count base text
run-length base text = length-prefix_len (digit_of base) text

-- a number that stands at the front and takes so many bytes
pub record Taken (text : List ℕ) (n : ℕ) : Type 0 where
  pub number : List ℕ
  pub rest : List ℕ
  pub cut : text ≡ number ++ rest
  pub size : length number ≡ n
  pub numeral : IsNumeral number

-- ---- after a mark of a base

with_digits-back : (n digits : ℕ) → 0 < with_digits n digits → (0 < digits) × (with_digits n digits ≡ n + digits)
with_digits-back n zero h = absurd (omega (arith, h))
with_digits-back n (suc digits) h = (omega arith, with_digits-some n (suc digits) (omega arith))

marked_unsigned : (mark base : ℕ) (digits : List ℕ) → base_of_mark mark ≡ Some base → is_numeral base digits ≡ true →
    IsUnsigned (48 ∷ mark ∷ digits) base digits
marked_unsigned mark base digits is h = go (cases_Bool (is_hexadecimal_mark mark)) (cases_Bool (is_octal_mark mark)) (cases_Bool (is_binary_mark mark))
  where
    go : (is_hexadecimal_mark mark ≡ true) ⊎ (is_hexadecimal_mark mark ≡ false) → (is_octal_mark mark ≡ true) ⊎ (is_octal_mark mark ≡ false) →
        (is_binary_mark mark ≡ true) ⊎ (is_binary_mark mark ≡ false) → IsUnsigned (48 ∷ mark ∷ digits) base digits
    go (inl p) q r = let same : Some 16 ≡ Some base = rw p at is in let value : 16 ≡ base = cc in subst (λ b. IsUnsigned (48 ∷ mark ∷ digits) b digits) value (hexadecimal p (subst (λ b. is_numeral b digits ≡ true) (sym value) h))
    go (inr p) (inl q) r = let same : Some 8 ≡ Some base = rw (p, q) at is in let value : 8 ≡ base = cc in subst (λ b. IsUnsigned (48 ∷ mark ∷ digits) b digits) value (octal q (subst (λ b. is_numeral b digits ≡ true) (sym value) h))
    go (inr p) (inr q) (inl r) = let same : Some 2 ≡ Some base = rw (p, q, r) at is in let value : 2 ≡ base = cc in subst (λ b. IsUnsigned (48 ∷ mark ∷ digits) b digits) value (binary r (subst (λ b. is_numeral b digits ≡ true) (sym value) h))
    go (inr p) (inr q) (inr r) = let same : None ≡ Some base = rw (p, q, r) at is in let wrong : ⊥ = cc in absurd wrong

taken_marked : (text : List ℕ) → 0 < marked_length text → Taken (48 ∷ text) (1 + marked_length text)
taken_marked [] h = absurd (omega (arith, h))
taken_marked (mark ∷ text) h = go (base_of_mark mark) refl h
  where
    go : (o : Option ℕ) → base_of_mark mark ≡ o → 0 < marked_length (mark ∷ text) → Taken (48 ∷ mark ∷ text) (1 + marked_length (mark ∷ text))
    go None e h = let nothing : marked_length (mark ∷ text) ≡ 0 = rw (e, marked_length) refl in absurd (omega (arith, h, nothing))
    go (Some base) e h =
        let is : marked_length (mark ∷ text) ≡ with_digits 1 (digit_count base text) = rw (e, marked_length) refl in
        let back = with_digits-back 1 (digit_count base text) (omega (arith, h, is)) in
        record {
          number = 48 ∷ mark ∷ take (digit_count base text) text;
          rest = drop (digit_count base text) text;
          cut = ap (λ t. 48 ∷ mark ∷ t) (cut_run base text);
          size = omega (arith, is, back.1, run-length base text);
          numeral = whole_numeral (marked_unsigned mark base (take (digit_count base text) text) e (run-numeral base text back.0));
        }

-- ---- a point and digits

pub record FractionParts (n : ℕ) (text : List ℕ) : Type 0 where
  pub back : List ℕ
  pub after : List ℕ
  pub cut : text ≡ 46 ∷ (back ++ after)
  pub digits : all_digits 10 back ≡ true
  pub size : fraction n text ≡ 1 + length back
  pub some : 0 < n + length back

fraction-parts : (n : ℕ) (text : List ℕ) → 0 < fraction n text → FractionParts n text
fraction-parts n [] h = absurd (omega (arith, h))
fraction-parts n (b ∷ text) h = go (cases_Bool (b == 46)) (cases_Bool (nat_lt 0 (n + digit_count 10 text)))
  where
    go : ((b == 46) ≡ true) ⊎ ((b == 46) ≡ false) → (nat_lt 0 (n + digit_count 10 text) ≡ true) ⊎ (nat_lt 0 (n + digit_count 10 text) ≡ false) → FractionParts n (b ∷ text)
    go (inr e) some = let nothing : fraction n (b ∷ text) ≡ 0 = rw (e, fraction) refl in absurd (omega (arith, h, nothing))
    go (inl e) (inr g) = let nothing : fraction n (b ∷ text) ≡ 0 = rw (e, fraction, g) refl in absurd (omega (arith, h, nothing))
    go (inl e) (inl g) =
        let is : fraction n (b ∷ text) ≡ 1 + digit_count 10 text = rw (e, fraction, g) refl in
        record {
          back = take (digit_count 10 text) text;
          after = drop (digit_count 10 text) text;
          cut = ap (λ c. c ∷ text) (eqb-true b 46 e) ∙ ap (λ t. 46 ∷ t) (cut_run 10 text);
          digits = run-kind (digit_of 10) text;
          size = omega (arith, is, run-length 10 text);
          some = omega (arith, ltb-true 0 (n + digit_count 10 text) g, run-length 10 text);
        }

-- ---- an exponent

pub record ExponentParts (text : List ℕ) : Type 0 where
  pub mark : ℕ
  pub sign : List ℕ
  pub digits : List ℕ
  pub after : List ℕ
  pub signed : ℕ → ℤ
  pub cut : text ≡ mark ∷ (sign ++ (digits ++ after))
  pub is_mark : is_exponent_mark mark ≡ true
  pub has_sign : IsSign sign signed
  pub numeral : is_numeral 10 digits ≡ true
  pub size : exponent text ≡ 1 + (length sign + length digits)

signed-digits : {sign : List ℕ} {signed : ℕ → ℤ} (mark b : ℕ) (text : List ℕ) → is_exponent_mark mark ≡ true → IsSign sign signed → sign ≡ b ∷ [] →
    exponent (mark ∷ b ∷ text) ≡ with_digits 2 (digit_count 10 text) → 0 < exponent (mark ∷ b ∷ text) → ExponentParts (mark ∷ b ∷ text)
signed-digits {sign} {signed} mark b text m s e is h =
    let back = with_digits-back 2 (digit_count 10 text) (omega (arith, h, is)) in
    record {
      mark = mark;
      sign = sign;
      digits = take (digit_count 10 text) text;
      after = drop (digit_count 10 text) text;
      signed = signed;
      cut = ap (λ t. mark ∷ b ∷ t) (cut_run 10 text) ∙ ap (λ t. mark ∷ (t ++ (take (digit_count 10 text) text ++ drop (digit_count 10 text) text))) (sym e);
      is_mark = m;
      has_sign = s;
      numeral = run-numeral 10 text back.0;
      size = omega (arith, is, back.1, run-length 10 text, ap length e);
    }

plain-digits : (mark : ℕ) (text : List ℕ) → is_exponent_mark mark ≡ true → exponent (mark ∷ text) ≡ with_digits 1 (digit_count 10 text) →
    0 < exponent (mark ∷ text) → ExponentParts (mark ∷ text)
plain-digits mark text m is h =
    let back = with_digits-back 1 (digit_count 10 text) (omega (arith, h, is)) in
    record {
      mark = mark;
      sign = [];
      digits = take (digit_count 10 text) text;
      after = drop (digit_count 10 text) text;
      signed = pos;
      cut = ap (λ t. mark ∷ t) (cut_run 10 text);
      is_mark = m;
      has_sign = none;
      numeral = run-numeral 10 text back.0;
      size = omega (arith, is, back.1, run-length 10 text);
    }

exponent-parts : (text : List ℕ) → 0 < exponent text → ExponentParts text
exponent-parts [] h = absurd (omega (arith, h))
exponent-parts (mark ∷ text) h = marks text h (cases_Bool (is_exponent_mark mark))
  where
    signs : (b : ℕ) (text : List ℕ) → is_exponent_mark mark ≡ true → 0 < exponent (mark ∷ b ∷ text) →
        ((b == 43 || b == 45) ≡ true) ⊎ ((b == 43 || b == 45) ≡ false) → ExponentParts (mark ∷ b ∷ text)
    signs b text m h (inr e) = plain-digits mark (b ∷ text) m (rw (m, exponent, e, exponent_digits) refl) h
    signs b text m h (inl e) =
        elim (or_cases (b == 43) (b == 45) e) [
          | inl p ↦ signed-digits mark b text m plus (ap (λ c. c ∷ []) (sym (eqb-true b 43 p))) (rw (m, exponent, e, exponent_digits) refl) h
          | inr p ↦ signed-digits mark b text m minus (ap (λ c. c ∷ []) (sym (eqb-true b 45 p))) (rw (m, exponent, e, exponent_digits) refl) h
        ]

    marks : (text : List ℕ) → 0 < exponent (mark ∷ text) → (is_exponent_mark mark ≡ true) ⊎ (is_exponent_mark mark ≡ false) → ExponentParts (mark ∷ text)
    marks text h (inr m) = let nothing : exponent (mark ∷ text) ≡ 0 = rw (m, exponent) refl in absurd (omega (arith, h, nothing))
    marks [] h (inl m) = let nothing : exponent (mark ∷ []) ≡ 0 = rw (m, exponent) refl in absurd (omega (arith, h, nothing))
    marks (b ∷ text) h (inl m) = signs b text m h (cases_Bool (b == 43 || b == 45))

-- ---- without a mark of a base

-- digits or a pointed number, and an exponent after it
taken_scaled : (text front after : List ℕ) (m : ℕ) → text ≡ front ++ after → length front ≡ m → (is_numeral 10 front ≡ true) ⊎ IsPointed front →
    0 < exponent (drop m text) → Taken text (m + exponent (drop m text))
taken_scaled text front after m cut size form some =
    let place : drop m text ≡ after = ap (drop m) cut ∙ drop_at front after m size in
    let e = exponent-parts (drop m text) some in
    let number = front ++ (e.mark ∷ (e.sign ++ e.digits)) in
    record {
      number = number;
      rest = e.after;
      cut = cut ∙ ap (λ t. front ++ t) (sym place ∙ e.cut) ∙ ap (λ t. front ++ (e.mark ∷ t)) (sym (append_assoc e.sign e.digits e.after))
          ∙ sym (appended front (e.sign ++ e.digits) e.after e.mark);
      size = omega (arith, length-append front (e.mark ∷ (e.sign ++ e.digits)), length-append e.sign e.digits, size, e.size);
      numeral = float_numeral (scaled_float front e.sign e.digits e.mark e.signed refl form e.is_mark e.has_sign e.numeral);
    }

-- digits, a point and digits
taken_pointed : (text : List ℕ) (n : ℕ) → (f : FractionParts n (drop n text)) → digit_count 10 text ≡ n → (IsPointed (take n text ++ (46 ∷ f.back)))
    × (text ≡ (take n text ++ (46 ∷ f.back)) ++ f.after) × (length (take n text ++ (46 ∷ f.back)) ≡ n + fraction n (drop n text))
taken_pointed text n f count =
    let front = take n text in
    let size : length front ≡ n = ap (λ k. length (take k text)) (sym count) ∙ run-length 10 text ∙ count in
    let front_digits : all_digits 10 front ≡ true = ap (λ k. all_digits 10 (take k text)) (sym count) ∙ run-kind (digit_of 10) text in
    let all : all_digits 10 (front ++ f.back) ≡ true =
    list_all-append (digit_of 10) front f.back ∙ and_from (all_digits 10 front) (all_digits 10 f.back) front_digits f.digits in
    let some : nat_lt 0 (length (front ++ f.back)) ≡ true = lt-ltb 0 (length (front ++ f.back)) (omega (arith, f.some, size, length-append front f.back)) in (
      record {
        front =
            front;
        back = f.back;
        spelled = refl;
        digits = and_from (nat_lt 0 (length (front ++ f.back))) (all_digits 10 (front ++ f.back)) some all;
      },
      sym (take-append-drop n text) ∙ ap (λ t. front ++ t) f.cut ∙ sym (appended front f.back f.after 46),
      omega (arith, size, f.size, length-append front (46 ∷ f.back)),
    )

-- digits alone: after a first 0 the octal ones
taken_octal : (text : List ℕ) → Taken (48 ∷ text) (digit_count 8 (48 ∷ text))
taken_octal text =
    elim (cases_Bool (nat_lt 0 (digit_count 8 text))) [
      | inl e ↦ record {
        number = 48 ∷ take (digit_count 8 text) text;
        rest = drop (digit_count 8 text) text;
        cut = ap (λ t. 48 ∷ t) (cut_run 8 text);
        size = omega (arith, run-length 8 text);
        numeral = whole_numeral (leading_zero (run-numeral 8 text (ltb-true 0 (digit_count 8 text) e)));
      }
      | inr e ↦ record {
        number = 48 ∷ [];
        rest = text;
        cut = refl;
        size = omega (arith, ltb-false 0 (digit_count 8 text) e);
        numeral = whole_numeral (decimal_digits refl (λ zero. refl));
      }
    ]

numeral_first : (digit : ℕ) (digits : List ℕ) → is_digit digit 10 ≡ true → all_digits 10 digits ≡ true → is_numeral 10 (digit ∷ digits) ≡ true
numeral_first digit digits h all =
    and_from (nat_lt 0 (length (digit ∷ digits))) (all_digits 10 (digit ∷ digits)) (lt-ltb 0 (length (digit ∷ digits)) (omega arith))
    (and_from (is_digit digit 10) (all_digits 10 digits) h all)

taken_decimal : (digit : ℕ) (text : List ℕ) → digit ≢ 48 → 0 < digit_count 10 (digit ∷ text) → Taken (digit ∷ text) (digit_count 10 (digit ∷ text))
taken_decimal digit text other some =
    elim (cases_Bool (is_digit digit 10)) [
      | inl e ↦ (let count : digit_count 10 (digit ∷ text) ≡ 1 + digit_count 10 text = rw e refl in record {
        number = digit ∷ take (digit_count 10 text) text;
        rest = drop (digit_count 10 text) text;
        cut = ap (λ t. digit ∷ t) (cut_run 10 text);
        size = omega (arith, count, run-length 10 text);
        numeral = whole_numeral (decimal_digits (numeral_first digit (take (digit_count 10 text) text) e (run-kind (digit_of 10) text)) (λ zero. absurd (other zero)));
      })
      | inr e ↦ (let count : digit_count 10 (digit ∷ text) ≡ 0 = rw e refl in absurd (omega (arith, some, count)))
    ]

taken_digits : (text : List ℕ) (n : ℕ) → digit_count 10 text ≡ n → 0 < n → Taken text (decimal n text)
taken_digits [] n count some = absurd (omega (arith, count, some))
taken_digits (digit ∷ text) n count some =
    elim (cases_Bool (digit == 48)) [
      | inl e ↦ (let zero = eqb-true digit 48 e in subst (λ d. Taken (d ∷ text) (decimal n (d ∷ text))) (sym zero) (taken_octal text))
      | inr e ↦ rw (e, decimal) (subst (Taken (digit ∷ text)) count (taken_decimal digit text (eqb-false digit 48 e) (omega (arith, count, some))))
    ]

taken_end : (text : List ℕ) (n m : ℕ) → digit_count 10 text ≡ n → n + fraction n (drop n text) ≡ m → 0 < m → Taken text (longer n (m + exponent (drop m text)) text)
taken_end text n m count size some =
    go (cases_Bool (nat_lt n (m + exponent (drop m text)))) (cases_Bool (nat_lt 0 (fraction n (drop n text)))) (cases_Bool (nat_lt 0 (exponent (drop m text))))
  where
    go : (nat_lt n (m + exponent (drop m text)) ≡ true) ⊎ (nat_lt n (m + exponent (drop m text)) ≡ false) →
        (nat_lt 0 (fraction n (drop n text)) ≡ true) ⊎ (nat_lt 0 (fraction n (drop n text)) ≡ false) →
        (nat_lt 0 (exponent (drop m text)) ≡ true) ⊎ (nat_lt 0 (exponent (drop m text)) ≡ false) → Taken text (longer n (m + exponent (drop m text)) text)
    go (inr far) f x =
        let low = ltb-false n (m + exponent (drop m text)) far in
        subst (Taken text) (sym (longer-digits n (m + exponent (drop m text)) text low)) (taken_digits text n count (omega (arith, some, low)))
    go (inl far) (inl f) x =
        let parts = fraction-parts n (drop n text) (ltb-true 0 (fraction n (drop n text)) f) in
        let p = taken_pointed text n parts count in
        let width : length (take n text ++ (46 ∷ parts.back)) ≡ m = p.2 ∙ size in
        subst (Taken text) (sym (longer-end n (m + exponent (drop m text)) text (ltb-true n (m + exponent (drop m text)) far)))
        (elim x [
          | inl y ↦ taken_scaled text (take n text ++ (46 ∷ parts.back)) parts.after m p.1 width (inr p.0) (ltb-true 0 (exponent (drop m text)) y)
          | inr y ↦ record {
            number = take n text ++ (46 ∷ parts.back);
            rest = parts.after;
            cut = p.1;
            size = omega (arith, width, ltb-false 0 (exponent (drop m text)) y);
            numeral = float_numeral (pointed p.0);
          }
        ])
    go (inl far) (inr f) x =
        let beyond = ltb-true n (m + exponent (drop m text)) far in
        let nothing : fraction n (drop n text) ≡ 0 = omega (arith, ltb-false 0 (fraction n (drop n text)) f) in
        let same : n ≡ m = omega (arith, size, nothing) in
        let front : is_numeral 10 (take m text) ≡ true =
        subst (λ k. is_numeral 10 (take k text) ≡ true) (count ∙ same) (run-numeral 10 text (omega (arith, count, same, some))) in
        let width : length (take m text) ≡ m = subst (λ k. length (take k text) ≡ k) (count ∙ same) (run-length 10 text) in
        subst (Taken text) (sym (longer-end n (m + exponent (drop m text)) text beyond))
        (taken_scaled text (take m text) (drop m text) m (sym (take-append-drop m text)) width (inl front) (omega (arith, beyond, same)))

taken_unmarked : (text : List ℕ) → 0 < unmarked_length text → Taken text (unmarked_length text)
taken_unmarked text h =
    let n = digit_count 10 text in
    let m = n + fraction n (drop n text) in
    elim (cases_Bool (m == 0)) [
      | inl e ↦ (let nothing : unmarked_length text ≡ 0 = rw (e, scaled_length) refl in absurd (omega (arith, h, nothing)))
      | inr e ↦
          (let some : 0 < m = omega (arith, eqb-false m 0 e) in
          subst (Taken text) (sym (scaled-on n m text some)) (taken_end text n m refl refl some))
    ]

pub taken : (text : List ℕ) → 0 < number_length text → Taken text (number_length text)
taken [] h = absurd (omega (arith, h))
taken (b ∷ text) h = go (cases_Bool (b == 48)) (cases_Bool (nat_lt 0 (marked_length text)))
  where
    go : ((b == 48) ≡ true) ⊎ ((b == 48) ≡ false) → (nat_lt 0 (marked_length text) ≡ true) ⊎ (nat_lt 0 (marked_length text) ≡ false) →
        Taken (b ∷ text) (number_length (b ∷ text))
    go (inr e) m =
        let is = number-other b text (eqb-false b 48 e) in
        subst (Taken (b ∷ text)) (sym is) (taken_unmarked (b ∷ text) (omega (arith, h, is)))
    go (inl e) (inl m) =
        let some = ltb-true 0 (marked_length text) m in
        subst (λ c. Taken (c ∷ text) (number_length (c ∷ text))) (sym (eqb-true b 48 e))
        (subst (Taken (48 ∷ text)) (sym (number-marked text some)) (taken_marked text some))
    go (inl e) (inr m) =
        let nothing : marked_length text ≡ 0 = omega (arith, ltb-false 0 (marked_length text) m) in
        let is = number-zero text nothing in
        let some : 0 < number_length (48 ∷ text) = subst (λ c. 0 < number_length (c ∷ text)) (eqb-true b 48 e) h in
        subst (λ c. Taken (c ∷ text) (number_length (c ∷ text))) (sym (eqb-true b 48 e))
        (subst (Taken (48 ∷ text)) (sym is) (taken_unmarked (48 ∷ text) (omega (arith, some, is))))
