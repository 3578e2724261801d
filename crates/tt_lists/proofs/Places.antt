-- Numbers and indices, digit by digit and by the grammar.
use Rattle.std.proofs.Common.{◌≡◌, ℕ, ◌+◌, ◌^◌, ◌<◌, ◌≤◌, true, false, ◌&&◌, List, length, get_or, take, Some, None, sym, ap, ◌∙◌, arith}
use Rattle.std.specs.Char.{digit_value}
use Rattle.std.specs.List.{list_all}
use Rattle.std.specs.Prelude.{nat_lt}
use Rattle.std.specs.Str.Parse.{digits_value}
use Rattle.std.proofs.lemmas.Bool.{and_right, and_left, lt-ltb, le-ltb, and_from, cond-true, cond-false}
use Rattle.std.proofs.lemmas.List.{take_all}
use Rattle.std.proofs.lemmas.List.Folds.{list_all_more, list_all_at}
use Rattle.std.proofs.lemmas.Str.Parse.{digits_value-take-le}
use Rattle.tt_lists.specs.Indices.{is_decimal, is_number, number_of}

none_where : (digits : List ℕ) → is_number digits ≡ false → None ≡ number_of digits
none_where digits h = sym (cond-false (is_number digits) (Some (digits_value 10 digits)) None h)

-- a byte that is no digit
pub bad_digit : (digits : List ℕ) (i : ℕ) → i < length digits → 10 ≤ digit_value (get_or digits i 0) → None ≡ number_of digits
bad_digit digits i within h =
    none_where digits
    (and_left (nat_lt 0 (length digits) && list_all is_decimal digits) (nat_lt (digits_value 10 digits) (2 ^ 64))
    (and_right (nat_lt 0 (length digits)) (list_all is_decimal digits) (list_all_at is_decimal digits i 0 within (le-ltb _ 10 h))))

-- a number past 64 bits
pub too_great : (digits : List ℕ) (i : ℕ) → 2 ^ 64 ≤ digits_value 10 (take i digits) → None ≡ number_of digits
too_great digits i h =
    none_where digits
    (and_right (nat_lt 0 (length digits) && list_all is_decimal digits) (nat_lt (digits_value 10 digits) (2 ^ 64))
    (le-ltb (digits_value 10 digits) (2 ^ 64) (omega (arith, h, digits_value-take-le 10 digits i (omega arith)))))

pub whole_number : (digits : List ℕ) (i n : ℕ) → 0 < length digits → length digits ≤ i → list_all is_decimal (take i digits) ≡ true →
    n ≡ digits_value 10 (take i digits) → n < 2 ^ 64 → Some n ≡ number_of digits
whole_number digits i n some past decimal number small =
    let all : take i digits ≡ digits = take_all i digits past in
    let value : n ≡ digits_value 10 digits = number ∙ ap (digits_value 10) all in
    let each : list_all is_decimal digits ≡ true = sym (ap (list_all is_decimal) all) ∙ decimal in
    let is : is_number digits ≡ true =
    and_from (nat_lt 0 (length digits) && list_all is_decimal digits) (nat_lt (digits_value 10 digits) (2 ^ 64))
    (and_from (nat_lt 0 (length digits)) (list_all is_decimal digits) (lt-ltb 0 (length digits) some) each)
    (lt-ltb (digits_value 10 digits) (2 ^ 64) (omega (arith, value, small))) in
    ap Some value ∙ sym (cond-true (is_number digits) (Some (digits_value 10 digits)) None is)

pub decimals_more : (digits : List ℕ) (i : ℕ) → i < length digits → list_all is_decimal (take i digits) ≡ true → digit_value (get_or digits i 0) < 10 →
    list_all is_decimal (take (i + 1) digits) ≡ true
decimals_more digits i within so_far digit = list_all_more is_decimal digits i 0 within ∙ rw (so_far, lt-ltb _ 10 digit)
