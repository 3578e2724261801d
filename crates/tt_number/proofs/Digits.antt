-- Digits read from the left, with a number that stops at the greatest of 64 bits.
use Rattle.std.proofs.Common.{◌≡◌, ℕ, zero, suc, ◌+◌, ◌-◌, ◌*◌, ◌^◌, ◌<◌, ◌≤◌, min, Bool, true, false, ◌==◌, List, []}
use Rattle.std.proofs.Common.{◌∷◌, length, get_or, take, Option, Some, None, Err, inl, inr, sym, ap, ◌∙◌, arith}
use Rattle.std.specs.Option.{option_map}
use Rattle.std.specs.Char.{digit_value}
use Rattle.std.specs.Str.Parse.{digits_value, digits_value_after}
use Rattle.std.proofs.Math.Nat.{pow-zero, pow-suc, mul-le-mul_right, le-mul_of_pos_right}
use Rattle.std.proofs.lemmas.Bool.{cases_lt, lt-ltb}
use Rattle.std.proofs.lemmas.Bool.Decides.{nat_tests}
use Rattle.std.proofs.lemmas.Int.Digits.{digits_value_more}
use Rattle.std.proofs.lemmas.List.Folds.{list_all_more}
use Rattle.std.proofs.lemmas.List.{take_all}
use Rattle.tt_number.specs.declared.numeral.NumberFault.TheVariants.{TooLarge}
use Rattle.tt_number.specs.Numerals.{digit_sum, all_digits, number_of, signed_number, signed_reading}

-- read from the left, digits make the sum that their places say
digits_after : (b n : ℕ) (ds : List ℕ) → digits_value_after b n ds ≡ n * b ^ length ds + digit_sum b ds
digits_after b n [] = rw (pow-zero b) (omega arith)
digits_after b n (c ∷ cs) = rw (pow-suc b (length cs)) (omega (arith, digits_after b (n * b + digit_value c) cs))

pub digit_sum_is : (b : ℕ) (ds : List ℕ) → digits_value b ds ≡ digit_sum b ds
digit_sum_is b ds = omega (arith, digits_after b 0 ds)

pub all_more : (base : ℕ) (xs : List ℕ) (i : ℕ) → i < length xs → all_digits base (take i xs) ≡ true → digit_value (get_or xs i 0) < base →
    all_digits base (take (i + 1) xs) ≡ true
all_more base xs i within so_far digit = list_all_more _ xs i 0 within ∙ rw (so_far, lt-ltb _ _ digit)

-- a step of a number that stops at the limit stops where the number itself is past it
capped_step : (n b d limit : ℕ) → 1 ≤ b → min (min (min n limit * b) limit + d) limit ≡ min (n * b + d) limit
capped_step n b d limit some =
    elim (cases_lt n limit) [
      | inl p ↦ (let e : min n limit ≡ n = omega arith in rw e (omega arith))
      | inr p ↦ (let e : min n limit ≡ limit = omega arith in rw e (omega (arith, mul-le-mul_right b p, le-mul_of_pos_right limit some)))
    ]

pub number_more : (base : ℕ) (xs : List ℕ) (i : ℕ) → i < length xs → 1 ≤ base →
    min (min (min (digits_value base (take i xs)) (2 ^ 64 - 1) * base) (2 ^ 64 - 1) + digit_value (get_or xs i 0)) (2 ^ 64 - 1) ≡ min
    (digits_value base (take (i + 1) xs)) (2 ^ 64 - 1)
number_more base xs i within some = capped_step _ base _ (2 ^ 64 - 1) some ∙ ap (λ n. min n (2 ^ 64 - 1)) (sym (digits_value_more base xs i within))

pub whole_number : (base : ℕ) (xs : List ℕ) (i n : ℕ) → false ≡ (length xs == 0) → length xs ≤ i → i ≤ length xs → all_digits base (take i xs) ≡ true →
    n ≡ min (digits_value base (take i xs)) (2 ^ 64 - 1) → Some n ≡ option_map (λ n. min n (2 ^ 64 - 1)) (number_of (base, xs))
whole_number base xs i n some low high digits value =
    let all : take i xs ≡ xs = take_all i xs low in
    let filled : 0 < length xs = grind (arith, nat_tests) in
    let whole = rw all at digits in
    let sum = rw all at value in
    rw (lt-ltb 0 (length xs) filled, whole) (ap Some (sum ∙ ap (λ n. min n (2 ^ 64 - 1)) (digit_sum_is base xs)))

past : (negative : Bool) (n : ℕ) → 2 ^ 63 < n → signed_number negative n ≡ Err TooLarge
past false n h = grind (arith, nat_tests)
past true zero h = absurd (omega arith)
past true (suc n) h = grind (arith, nat_tests)

-- a number at the limit or past it is cut off alike
cut_capped : (negative : Bool) (n m : ℕ) → m ≡ min n (2 ^ 64 - 1) → signed_number negative m ≡ signed_number negative n
cut_capped negative n m e =
    elim (cases_lt n (2 ^ 64 - 1)) [
      | inl p ↦ ap (signed_number negative) (omega arith)
      | inr p ↦ past negative m (omega arith) ∙ sym (past negative n (omega arith))
    ]

pub read_capped : (negative : Bool) (unsigned : List ℕ) (m : ℕ) (number : Option ℕ) → Some m ≡ option_map (λ n. min n (2 ^ 64 - 1)) number →
    signed_number negative m ≡ signed_reading negative unsigned number
read_capped negative unsigned m (Some n) e = cut_capped negative n m cc
read_capped negative unsigned m None e = cc
