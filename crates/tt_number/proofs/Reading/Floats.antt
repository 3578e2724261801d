-- The grammar of floating-point numbers against the function that finds them.
use Rattle.std.proofs.Common.{◌≡◌, ℕ, ◌+◌, ◌<◌, ◌≤◌, Bool, true, false, not, ◌&&◌, List, [], ◌∷◌, ◌++◌, length, get_or}
use Rattle.std.proofs.Common.{take, drop, Option, Some, None, refl, ap, ◌∙◌, inl, inr, append_assoc, arith, ◌==◌, ◌||◌}
use Rattle.std.proofs.Common.{length-append, length-take, length-drop, add-one, ℤ}
use Rattle.std.specs.Char.{is_digit}
use Rattle.std.specs.List.{list_all, position, position_or_len}
use Rattle.std.specs.Prelude.{nat_lt, ◌⊎◌}
use Rattle.std.proofs.lemmas.Bool.{cases_Bool, eqb-true, or_cases, or_left, or_right, and_parts, and_from, both_ways, lt-ltb, le-ltb, ltb-true}
use Rattle.std.proofs.lemmas.Bool.Decides.{nat_tests}
use Rattle.std.proofs.lemmas.List.Sums.{passes_at_first}
use Rattle.std.proofs.Math.Seq.{take-append_seam, drop-append-add, split_at}
use Rattle.tt_number.specs.Numerals.{IsPointed, IsFloat, IsSign, all_digits, is_numeral, number_of, base_and_digits}
use Rattle.tt_number.specs.Numerals.{base_of_mark, after_zero, is_point, is_pointed, divides_digits, is_exponent_mark}
use Rattle.tt_number.specs.Numerals.{is_float, is_float_with, is_scaled, unsigned_part}
use Rattle.tt_number.specs.Numerals.IsFloat.{pointed, scaled}
use Rattle.tt_number.proofs.Trims.{and_false}
use Rattle.tt_number.proofs.Reading.Trimming.{not_white, is_plain, all_parts, all_from, digits_plain, plain_append}
use Rattle.tt_number.proofs.Reading.Signs.{is_sign_byte, after_sign, sign_of, sign_plain}
use Rattle.tt_number.proofs.Reading.Numbers.{numeral_digits, digit_no_mark, digit_no_sign}

-- ---- places

-- the test passes nowhere in the text
abbrev pub fails : (ℕ → Bool) → List ℕ → Bool
fails p text = list_all (λ b. not (p b)) text

stops_at_end : (p : ℕ → Bool) (text : List ℕ) → fails p text ≡ true → position_or_len p text ≡ length text
stops_at_end p [] h = refl
stops_at_end p (x ∷ text) h = let q = all_parts (λ b. not (p b)) x text h in rw q.0 (omega (arith, stops_at_end p text q.1))

stops_at : (p : ℕ → Bool) (front : List ℕ) (x : ℕ) (back : List ℕ) → fails p front ≡ true → p x ≡ true → position_or_len p (front ++ (x ∷ back)) ≡ length front
stops_at p [] x back h is = rw is refl
stops_at p (y ∷ front) x back h is = let q = all_parts (λ b. not (p b)) y front h in rw q.0 (omega (arith, stops_at p front x back q.1 is))

position_is : (p : ℕ → Bool) (text : List ℕ) (n : ℕ) → position_or_len p text ≡ n → n < length text → position p text ≡ Some n
position_is p text n e h = rw (e, lt-ltb n (length text) h) refl

place : (p : ℕ → Bool) (front : List ℕ) (x : ℕ) (back : List ℕ) → fails p front ≡ true → p x ≡ true → position p (front ++ (x ∷ back)) ≡ Some (length front)
place p front x back h is = position_is p (front ++ (x ∷ back)) (length front) (stops_at p front x back h is) (omega (arith, length-append front (x ∷ back)))

no_place : (p : ℕ → Bool) (text : List ℕ) → fails p text ≡ true → position p text ≡ None
no_place p text h = rw (le-ltb (position_or_len p text) (length text) (omega (arith, stops_at_end p text h))) refl

placed : (p : ℕ → Bool) (text : List ℕ) (at : ℕ) → position p text ≡ Some at → (at < length text) × (p (get_or text at 0) ≡ true)
placed p text at h =
    elim (cases_Bool (nat_lt (position_or_len p text) (length text))) [
      | inl q ↦ (let e : position_or_len p text ≡ at = cc (rw q at h) in let within = ltb-true (position_or_len p text) (length text) q in (rw (← e) within, rw (← e) (passes_at_first p text 0 within)))
      | inr q ↦ absurd (cc (rw q at h))
    ]

-- ---- digits with a point

point_fails : (b base : ℕ) → base ≤ 10 → is_digit b base ≡ true → not (is_point b) ≡ true
point_fails b base h d = grind (arith, nat_tests)

mark_fails : (b base : ℕ) → base ≤ 10 → is_digit b base ≡ true → not (is_exponent_mark b) ≡ true
mark_fails b base h d = grind (arith, nat_tests)

no_point : (digits : List ℕ) → all_digits 10 digits ≡ true → fails is_point digits ≡ true
no_point [] h = refl
no_point (d ∷ digits) h = let p = all_parts (λ digit. is_digit digit 10) d digits h in all_from (λ b. not (is_point b)) d digits (point_fails d 10 (omega arith) p.0) (no_point digits p.1)

no_mark : (digits : List ℕ) → all_digits 10 digits ≡ true → fails is_exponent_mark digits ≡ true
no_mark [] h = refl
no_mark (d ∷ digits) h = let p = all_parts (λ digit. is_digit digit 10) d digits h in all_from (λ b. not (is_exponent_mark b)) d digits (mark_fails d 10 (omega arith) p.0) (no_mark digits p.1)

fails_append : (p : ℕ → Bool) (xs ys : List ℕ) → fails p xs ≡ true → fails p ys ≡ true → fails p (xs ++ ys) ≡ true
fails_append p [] ys f g = g
fails_append p (x ∷ xs) ys f g = let r = all_parts (λ b. not (p b)) x xs f in all_from (λ b. not (p b)) x (xs ++ ys) r.0 (fails_append p xs ys r.1 g)

digits_append : (base : ℕ) (xs ys : List ℕ) → all_digits base (xs ++ ys) ≡ true → (all_digits base xs ≡ true) × (all_digits base ys ≡ true)
digits_append base [] ys h = (refl, h)
digits_append base (x ∷ xs) ys h = let p = all_parts (λ digit. is_digit digit base) x (xs ++ ys) h in let r = digits_append base xs ys p.1 in (all_from (λ digit. is_digit digit base) x xs p.0 r.0, r.1)

append_digits : (base : ℕ) (xs ys : List ℕ) → all_digits base xs ≡ true → all_digits base ys ≡ true → all_digits base (xs ++ ys) ≡ true
append_digits base [] ys f g = g
append_digits base (x ∷ xs) ys f g = let r = all_parts (λ digit. is_digit digit base) x xs f in all_from (λ digit. is_digit digit base) x (xs ++ ys) r.0 (append_digits base xs ys r.1 g)

back_of : (front : List ℕ) (x : ℕ) (back : List ℕ) → drop (length front + 1) (front ++ (x ∷ back)) ≡ back
back_of front x back = drop-append-add front (x ∷ back) 1

pointed_yes : (front back : List ℕ) → is_numeral 10 (front ++ back) ≡ true → is_pointed (front ++ (46 ∷ back)) ≡ true
pointed_yes front back h =
    let all = digits_append 10 front back (numeral_digits 10 (front ++ back) h) in
    let some = ltb-true 0 (length (front ++ back)) (and_parts (nat_lt 0 (length (front ++ back))) (all_digits 10 (front ++ back)) h).0 in
    let long : nat_lt 1 (length (front ++ (46 ∷ back))) ≡ true = lt-ltb 1 _ (omega (arith, length-append front back, length-append front (46 ∷ back))) in
    ap (divides_digits (front ++ (46 ∷ back))) (place is_point front 46 back (no_point front all.0) refl)
    ∙ rw (long, take-append_seam front (46 ∷ back), back_of front 46 back, all.0, all.1) refl

pub to_pointed : (text : List ℕ) → is_pointed text ≡ true → IsPointed text
to_pointed text h = go (position is_point text) refl h
  where
    go : (o : Option ℕ) → position is_point text ≡ o → divides_digits text o ≡ true → IsPointed text
    go None e h = absurd (both_ways false refl h)
    go (Some at) e h =
        let p = placed is_point text at e in
        let point = eqb-true (get_or text at 0) 46 p.1 in
        let q = and_parts (nat_lt 1 (length text) && all_digits 10 (take at text)) (all_digits 10 (drop (at + 1) text)) h in
        let r = and_parts (nat_lt 1 (length text)) (all_digits 10 (take at text)) q.0 in
        let some = ltb-true 1 (length text) r.0 in
        let cut = split_at text at 0 p.0 in
        record {
          front = take at text;
          back = drop (at + 1) text;
          spelled = rw (point, ← add-one at) at cut;
          digits = and_from (nat_lt 0 (length (take at text ++ drop (at + 1) text))) (all_digits 10 (take at text ++ drop (at + 1) text))
              (lt-ltb 0 _ (omega (arith, length-append (take at text) (drop (at + 1) text), length-take at text, length-drop (at + 1) text)))
              (append_digits 10 (take at text) (drop (at + 1) text) r.1 q.1);
        }

-- ---- no float is a whole number

not_all_digits : (base : ℕ) (front : List ℕ) (bad : ℕ) (rest : List ℕ) → is_digit bad base ≡ false → all_digits base (front ++ (bad ∷ rest)) ≡ false
not_all_digits base [] bad rest h = rw h refl
not_all_digits base (x ∷ front) bad rest h = rw (not_all_digits base front bad rest h) (and_false (is_digit x base))

number_none : (base : ℕ) (digits : List ℕ) → all_digits base digits ≡ false → number_of (base, digits) ≡ None
number_none base digits h = rw (h, and_false (nat_lt 0 (length digits))) refl

-- a byte that ends a run of digits, and names no base
record IsBad (b : ℕ) : Type 0 where
  no_decimal : is_digit b 10 ≡ false
  no_octal : is_digit b 8 ≡ false
  no_base : base_of_mark b ≡ None
  no_zero : (b == 48) ≡ false

bad_point : IsBad 46
bad_point = record { no_decimal = refl; no_octal = refl; no_base = refl; no_zero = refl }

bad_mark : (mark : ℕ) → is_exponent_mark mark ≡ true → IsBad mark
bad_mark mark m =
    elim (or_cases (mark == 101) (mark == 69) m) [
      | inl p ↦
          rw (eqb-true mark 101 p) (record { no_decimal = refl; no_octal = refl; no_base = refl; no_zero = refl })
      | inr p ↦ rw (eqb-true mark 69 p) (record { no_decimal = refl; no_octal = refl; no_base = refl; no_zero = refl })
    ]

no_number : (front : List ℕ) (bad : ℕ) (rest : List ℕ) → all_digits 10 front ≡ true → IsBad bad → number_of (base_and_digits (front ++ (bad ∷ rest))) ≡ None
no_number [] bad [] h b = number_none 10 (bad ∷ []) (not_all_digits 10 [] bad [] b.no_decimal)
no_number [] bad (m ∷ ds) h b = rw b.no_zero (number_none 10 (bad ∷ m ∷ ds) (not_all_digits 10 [] bad (m ∷ ds) b.no_decimal))
no_number (c ∷ []) bad rest h b =
    elim (cases_Bool (c == 48)) [
      | inl p ↦ rw p (ap (λ o. number_of (after_zero o bad rest)) b.no_base ∙ number_none 8 (bad ∷ rest) (not_all_digits 8 [] bad rest b.no_octal))
      | inr p ↦ rw p (number_none 10 (c ∷ bad ∷ rest) (not_all_digits 10 (c ∷ []) bad rest b.no_decimal))
    ]
no_number (c ∷ d ∷ fs) bad rest h b =
    let p = all_parts (λ digit. is_digit digit 10) c (d ∷ fs) h in
    let q = all_parts (λ digit. is_digit digit 10) d fs p.1 in
    elim (cases_Bool (c == 48)) [
      | inl p ↦ rw p
          (ap (λ o. number_of (after_zero o d (fs ++ (bad ∷ rest)))) (digit_no_mark d 10 (omega arith) q.0)
          ∙ number_none 8 (d ∷ (fs ++ (bad ∷ rest))) (not_all_digits 8 (d ∷ fs) bad rest b.no_octal))
      | inr p ↦ rw p (number_none 10 (c ∷ d ∷ (fs ++ (bad ∷ rest))) (not_all_digits 10 (c ∷ d ∷ fs) bad rest b.no_decimal))
    ]

-- ---- floats

-- what stands before an exponent
record IsFront (front : List ℕ) : Type 0 where
  first : ℕ
  others : List ℕ
  begins : front ≡ first ∷ others
  no_sign : is_sign_byte first ≡ false
  plain : is_plain front ≡ true
  unmarked : fails is_exponent_mark front ≡ true
  is : (is_numeral 10 front || is_pointed front) ≡ true
  none : (bad : ℕ) (rest : List ℕ) → IsBad bad → number_of (base_and_digits (front ++ (bad ∷ rest))) ≡ None

front_numeral : (front : List ℕ) → is_numeral 10 front ≡ true → IsFront front
front_numeral [] h = absurd (both_ways false refl h)
front_numeral (d ∷ ds) h =
    let all = numeral_digits 10 (d ∷ ds) h in
    record {
      first =
          d;
      others = ds;
      begins =
          refl;
      no_sign =
          digit_no_sign d 10 (omega arith) (all_parts (λ digit. is_digit digit 10) d ds all).0;
      plain =
          digits_plain 10 (d ∷ ds) (omega arith) all;
      unmarked =
          no_mark (d ∷ ds) all;
      is = or_left (is_numeral 10 (d ∷ ds)) (is_pointed (d ∷ ds)) h;
      none = λ bad rest b. no_number (d ∷ ds) bad rest all b;
    }

front_pointed : (front back : List ℕ) → is_numeral 10 (front ++ back) ≡ true → IsFront (front ++ (46 ∷ back))
front_pointed front back h = go front h
  where
    parts : (front : List ℕ) → is_numeral 10 (front ++ back) ≡ true → (all_digits 10 front ≡ true) × (all_digits 10 back ≡ true)
    parts front h = digits_append 10 front back (numeral_digits 10 (front ++ back) h)

    plain_of : (front : List ℕ) → is_numeral 10 (front ++ back) ≡ true → is_plain (front ++ (46 ∷ back)) ≡ true
    plain_of front h =
        plain_append front (46 ∷ back) (digits_plain 10 front (omega arith) (parts front h).0)
        (all_from not_white 46 back refl (digits_plain 10 back (omega arith) (parts front h).1))

    unmarked_of : (front : List ℕ) → is_numeral 10 (front ++ back) ≡ true → fails is_exponent_mark (front ++ (46 ∷ back)) ≡ true
    unmarked_of front h =
        fails_append is_exponent_mark front (46 ∷ back) (no_mark front (parts front h).0)
        (all_from (λ b. not (is_exponent_mark b)) 46 back refl (no_mark back (parts front h).1))

    is_of : (front : List ℕ) → is_numeral 10 (front ++ back) ≡ true → (is_numeral 10 (front ++ (46 ∷ back)) || is_pointed (front ++ (46 ∷ back))) ≡ true
    is_of front h = or_right (is_numeral 10 (front ++ (46 ∷ back))) (is_pointed (front ++ (46 ∷ back))) (pointed_yes front back h)

    none_of : (front : List ℕ) → is_numeral 10 (front ++ back) ≡ true → (bad : ℕ) (rest : List ℕ) → IsBad bad →
        number_of (base_and_digits ((front ++ (46 ∷ back)) ++ (bad ∷ rest))) ≡ None
    none_of front h bad rest b =
        ap (λ t. number_of (base_and_digits t)) (append_assoc front (46 ∷ back) (bad ∷ rest))
        ∙ no_number front 46 (back ++ (bad ∷ rest)) (parts front h).0 bad_point

    go : (front : List ℕ) → is_numeral 10 (front ++ back) ≡ true → IsFront (front ++ (46 ∷ back))
    go [] h = record {
      first =
          46;
      others = back;
      begins = refl;
      no_sign = refl;
      plain = plain_of [] h;
      unmarked = unmarked_of [] h;
      is = is_of [] h;
      none = none_of [] h;
    }
    go (d ∷ ds) h =
        record {
          first =
              d;
          others = ds ++ (46 ∷ back);
          begins =
              refl;
          no_sign =
              digit_no_sign d 10 (omega arith) (all_parts (λ digit. is_digit digit 10) d ds (parts (d ∷ ds) h).0).0;
          plain =
              plain_of (d ∷ ds) h;
          unmarked = unmarked_of (d ∷ ds) h;
          is = is_of (d ∷ ds) h;
          none = none_of (d ∷ ds) h;
        }

-- a float as the function sees it
pub record IsFloatRead (text : List ℕ) : Type 0 where
  pub first : ℕ
  pub rest : List ℕ
  pub begins : text ≡ first ∷ rest
  pub no_sign : is_sign_byte first ≡ false
  pub plain : is_plain text ≡ true
  pub is : is_float text ≡ true
  pub none : number_of (base_and_digits text) ≡ None

read_pointed : (front back : List ℕ) → is_numeral 10 (front ++ back) ≡ true → IsFloatRead (front ++ (46 ∷ back))
unfolding is_float
read_pointed front back h =
    let f = front_pointed front back h in
    let all = digits_append 10 front back (numeral_digits 10 (front ++ back) h) in
    record {
      first =
          f.first;
      rest =
          f.others;
      begins =
          f.begins;
      no_sign =
          f.no_sign;
      plain =
          f.plain;
      is =
          ap (is_float_with (front ++ (46 ∷ back))) (no_place is_exponent_mark (front ++ (46 ∷ back)) f.unmarked) ∙ pointed_yes front back h;
      none =
          no_number front 46 back all.0 bad_point;
    }

mark_plain : (mark : ℕ) → is_exponent_mark mark ≡ true → not_white mark ≡ true
mark_plain mark m = elim (or_cases (mark == 101) (mark == 69) m) [ inl p ↦ rw (eqb-true mark 101 p) refl | inr p ↦ rw (eqb-true mark 69 p) refl ]

exponent_digits : {sign : List ℕ} {signed : ℕ → ℤ} → IsSign sign signed → (digits : List ℕ) → is_numeral 10 digits ≡ true →
    is_numeral 10 (unsigned_part (sign ++ digits)) ≡ true
exponent_digits s [] h = absurd (both_ways false refl h)
exponent_digits s (d ∷ ds) h =
    rw (after_sign s d ds (digit_no_sign d 10 (omega arith) (all_parts (λ digit. is_digit digit 10) d ds (numeral_digits 10 (d ∷ ds) h)).0)) h

read_scaled : {sign : List ℕ} {signed : ℕ → ℤ} (front : List ℕ) (mark : ℕ) (digits : List ℕ) → IsFront front → is_exponent_mark mark ≡ true →
    IsSign sign signed → is_numeral 10 digits ≡ true → IsFloatRead (front ++ (mark ∷ (sign ++ digits)))
unfolding is_float
read_scaled {sign} front mark digits f m s h =
    let text = front ++ (mark ∷ (sign ++ digits)) in
    let back = exponent_digits s digits h in
    let parts : is_scaled (take (length front) text) (drop (length front + 1) text) ≡ true =
    rw (take-append_seam front (mark ∷ (sign ++ digits)), back_of front mark (sign ++ digits))
    (and_from (is_numeral 10 front || is_pointed front) (is_numeral 10 (unsigned_part (sign ++ digits))) f.is back) in
    record {
      first = f.first;
      rest = f.others ++ (mark ∷ (sign ++ digits));
      begins = ap (λ t. t ++ (mark ∷ (sign ++ digits))) f.begins;
      no_sign = f.no_sign;
      plain = plain_append front (mark ∷ (sign ++ digits)) f.plain
          (all_from not_white mark (sign ++ digits) (mark_plain mark m)
          (plain_append sign digits (sign_plain s) (digits_plain 10 digits (omega arith) (numeral_digits 10 digits h))));
      is = ap (is_float_with text) (place is_exponent_mark front mark (sign ++ digits) f.unmarked m) ∙ parts;
      none = f.none mark (sign ++ digits) (bad_mark mark m);
    }

pub read_float : {text : List ℕ} → IsFloat text → IsFloatRead text
read_float (pointed p) = rw p.spelled (read_pointed p.front p.back p.digits)
read_float (scaled front sign digits mark signed e m is s h) =
    elim m [
      | inl n ↦ rw e (read_scaled front mark digits (front_numeral front n) is s h)
      | inr p ↦ rw (e, p.spelled) (read_scaled (p.front ++ (46 ∷ p.back)) mark digits (front_pointed p.front p.back p.digits) is s h)
    ]

pub find_float : (text : List ℕ) → is_float text ≡ true → IsFloat text
unfolding is_float
find_float text h = go (position is_exponent_mark text) refl h
  where
    front_of : (front : List ℕ) → (is_numeral 10 front || is_pointed front) ≡ true → (is_numeral 10 front ≡ true) ⊎ IsPointed front
    front_of front h = elim (or_cases (is_numeral 10 front) (is_pointed front) h) [ inl p ↦ inl p | inr p ↦ inr (to_pointed front p) ]

    go : (o : Option ℕ) → position is_exponent_mark text ≡ o → is_float_with text o ≡ true → IsFloat text
    go None e h = pointed (to_pointed text h)
    go (Some at) e h =
        let p = placed is_exponent_mark text at e in
        let q = and_parts (is_numeral 10 (take at text) || is_pointed (take at text)) (is_numeral 10 (unsigned_part (drop (at + 1) text))) h in
        let s = sign_of (drop (at + 1) text) in
        let cut = rw (← add-one at) at (split_at text at 0 p.0) in
        scaled (take at text) s.sign (unsigned_part (drop (at + 1) text)) (get_or text at 0) s.signed
        (cut ∙ ap (λ t. take at text ++ (get_or text at 0 ∷ t)) s.spelled) (front_of (take at text) q.0) p.1 s.has q.1
