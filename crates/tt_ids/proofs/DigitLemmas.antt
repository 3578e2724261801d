use Rattle.std.proofs.Common.{rules, ◌≡◌, ◌≢◌, ◌<◌, ◌≤◌, ◌+◌, ◌-◌, ◌*◌, ◌^◌, ◌&&◌, ℕ, List, [], ◌∷◌, ◌++◌, length, take}
use Rattle.std.proofs.Common.{drop, get_or, Bool, true, false, refl, sym, ap, ◌∙◌, subst, arith, add-one, drop-cons}
use Rattle.std.specs.Char.{is_ascii_digit}
use Rattle.std.specs.Str.{all_ascii_digits}
use Rattle.std.specs.Fmt.{decimal}
use Rattle.std.proofs.lemmas.Str.Parse.{IsNumeralModel, numerals_by_fold, digits_value_short}
use Rattle.std.proofs.lemmas.Fmt.{digits_decimal, digits_value-decimal, decimal-digits_value, decimal_nonempty, first_decimal, length-decimal-le, decimal_digit}
use Rattle.std.proofs.lemmas.List.{take-append-drop}
use Rattle.std.proofs.lemmas.Bool.Decides.{nat_tests}
use Rattle.tt_ids.specs.Digits.{BeginsWithNoDigit, number_after}
use Rattle.tt_ids.specs.ThreadNumbers.{IsInRange}
use Rattle.tt_ids.specs.inside.DigitRun.{IsDigitRun}

-- the numbers of digits, as std has them
pub own : IsNumeralModel (λ ds. all_ascii_digits ds ≡ true) (number_after 0)
own = numerals_by_fold _ (search rules) number_after (search rules)

both : (a b : Bool) → (a && b) ≡ true → (a ≡ true) × (b ≡ true)
both true b e = (refl, e)
both false b e = cc

both_true : (a b : Bool) → a ≡ true → b ≡ true → (a && b) ≡ true
both_true a b p q = rw (p, q) refl

pub all-more : (ds : List ℕ) (c : ℕ) → all_ascii_digits ds ≡ true → is_ascii_digit c ≡ true → all_ascii_digits (ds ++ c ∷ []) ≡ true
all-more [] c all digit = both_true _ _ digit refl
all-more (d ∷ ds) c all digit =
    let parts = both (is_ascii_digit d) (all_ascii_digits ds) all in
    both_true _ _ parts.0 (all-more ds c parts.1 digit)

-- more digits don't lower a number
pub read_on-ge : (n : ℕ) (ds : List ℕ) → n ≤ number_after n ds
read_on-ge n [] = omega arith
read_on-ge n (d ∷ ds) = omega (arith, read_on-ge (10 * n + (d - 48)) ds)

-- the longest run of digits at the front is one
pub same-run : (ds es x y : List ℕ) → all_ascii_digits ds ≡ true → all_ascii_digits es ≡ true → BeginsWithNoDigit x → BeginsWithNoDigit y →
    ds ++ x ≡ es ++ y → (ds ≡ es) × (x ≡ y)
same-run [] [] x y p q nx ny e = (refl, e)
same-run [] (d ∷ es) x y p q nx ny e =
    let not_digit : is_ascii_digit d ≡ false = subst BeginsWithNoDigit e nx in
    let digit = (both (is_ascii_digit d) (all_ascii_digits es) q).0 in
    cc
same-run (d ∷ ds) [] x y p q nx ny e =
    let not_digit : is_ascii_digit d ≡ false = subst BeginsWithNoDigit (sym e) ny in
    let digit = (both (is_ascii_digit d) (all_ascii_digits ds) p).0 in
    cc
same-run (d ∷ ds) (f ∷ es) x y p q nx ny e =
    let tails : ds ++ x ≡ es ++ y = cc in
    let heads : d ≡ f = cc in
    let more = same-run ds es x y (both (is_ascii_digit d) (all_ascii_digits ds) p).1 (both (is_ascii_digit f) (all_ascii_digits es) q).1 nx ny tails in
    let rest = more.0 in
    (cc, more.1)

-- a number that the text begins with is written by its longest run of digits
pub run-written : (text : List ℕ) (count : ℕ) (n : ℕ) (rest : List ℕ) → IsDigitRun text count → n < 2 ^ 64 → BeginsWithNoDigit rest →
    text ≡ decimal n ++ rest → take count text ≡ decimal n
run-written text count n rest run small stops e =
    (same-run (take count text) (decimal n) (drop count text) rest run.digits (digits_decimal own n small) run.stops stops (take-append-drop count text ∙ e)).0

pub run-only : (text : List ℕ) (count : ℕ) (n : ℕ) (rest : List ℕ) → IsDigitRun text count → IsInRange n → BeginsWithNoDigit rest →
    text ≡ decimal n ++ rest → take count text ≡ decimal n
run-only text count n rest run range stops e = run-written text count n rest run (omega (arith, range.1)) stops e

-- one digit further
pub record IsStep (digits : List ℕ) (i value : ℕ) : Type 0 where
  pub low : 48 ≤ get_or digits i 0
  pub fits : 10 * value + (get_or digits i 0 - 48) < 10 ^ 8
  pub more : number_after (10 * value + (get_or digits i 0 - 48)) (drop (i + 1) digits) ≡ number_after 0 digits
  pub digits_left : all_ascii_digits (drop (i + 1) digits) ≡ true

digit-low : (c : ℕ) → is_ascii_digit c ≡ true → 48 ≤ c
digit-low c e = grind (arith, nat_tests)

pub next_step : (digits : List ℕ) (i value : ℕ) → length digits ≤ 8 → all_ascii_digits digits ≡ true → i < length digits →
    number_after value (drop i digits) ≡ number_after 0 digits → all_ascii_digits (drop i digits) ≡ true → IsStep digits i value
next_step digits i value short all h e left =
    let cut : drop i digits ≡ get_or digits i 0 ∷ drop (i + 1) digits = rw add-one (drop-cons digits i 0 h) in
    let read : number_after (10 * value + (get_or digits i 0 - 48)) (drop (i + 1) digits) ≡ number_after 0 digits = rw cut at e in
    let parts = both (is_ascii_digit (get_or digits i 0)) (all_ascii_digits (drop (i + 1) digits)) (rw cut at left) in
    let bound : number_after 0 digits < 10 ^ 8 = digits_value_short own digits 8 all short in
    record {
      low = digit-low _ parts.0;
      fits = omega (arith, read_on-ge (10 * value + (get_or digits i 0 - 48)) (drop (i + 1) digits));
      more = read;
      digits_left = parts.1;
    }

not_zero : (n : ℕ) → (n ≡ 0 → ⊥) → 1 ≤ n
not_zero n h = grind arith

-- a number in range is written by digits, the first of them no 0, and not more than eight
pub record IsWritten (digits : List ℕ) : Type 0 where
  pub nonempty : 0 < length digits
  pub first : 48 < get_or digits 0 0
  pub short : length digits ≤ 8

pub written : (n : ℕ) → IsInRange n → IsWritten (decimal n)
written n range =
    let small : n < 2 ^ 64 = omega (arith, range.1) in
    record {
      nonempty = decimal_nonempty n small;
      first = first_decimal n range.0 small;
      short = length-decimal-le 8 n (omega arith) (omega (arith, range.1)) small;
    }

pub written_as : (digits : List ℕ) (n : ℕ) → IsInRange n → digits ≡ decimal n → IsWritten digits
written_as digits n range e = rw e (written n range)

pub value-decimal : (n : ℕ) (digits : List ℕ) → IsInRange n → digits ≡ decimal n → number_after 0 digits ≡ n
value-decimal n digits range e =
    let small : n < 2 ^ 64 = omega (arith, range.1) in
    rw e (digits_value-decimal own n small)

from_one : (digits : List ℕ) → get_or digits 0 0 ≢ 48 → decimal (number_after 0 digits) ≡ digits → 1 ≤ number_after 0 digits
from_one digits first same = not_zero (number_after 0 digits) (λ zero. first (
    let nought : decimal 0 ≡ 48 ∷ [] = decimal_digit 0 (omega arith) in
    let written : digits ≡ 48 ∷ [] = sym same ∙ (ap decimal zero ∙ nought) in
    ap (λ (ds : List ℕ). get_or ds 0 0) written))

-- digits that begin with no 0 write a number from 1
pub decimal-value : (digits : List ℕ) → all_ascii_digits digits ≡ true → 0 < length digits → get_or digits 0 0 ≢ 48 → length digits ≤ 8 →
    (decimal (number_after 0 digits) ≡ digits) × (1 ≤ number_after 0 digits)
decimal-value digits all some first short =
    let bound : number_after 0 digits < 10 ^ 8 = digits_value_short own digits 8 all short in
    let same : decimal (number_after 0 digits) ≡ digits = decimal-digits_value own digits all some (λ zero. absurd (first zero)) (omega arith) in
    (same, from_one digits first same)
