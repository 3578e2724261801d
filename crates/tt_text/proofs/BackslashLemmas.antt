-- Digits, the numbers that they write, and runs at the front of a text.
use Rattle.std.proofs.Common.{◌≡◌, ℕ, zero, suc, ◌+◌, ◌*◌, ◌^◌, ◌<◌, ◌≤◌, List, [], ◌∷◌, length, get_or, take, refl}
use Rattle.std.proofs.Common.{sym, ap, subst, ◌∙◌, arith, add-one, Bool, true, false, cond}
use Rattle.std.specs.Prelude.{Option, Some, None, SomeIff, unwrap_or, take_while}
use Rattle.std.specs.List.{prefix_len}
use Rattle.std.proofs.lemmas.List.Folds.{length-prefix_len}
use Rattle.std.specs.Str.Parse.{AllDigits, digits_value}
use Rattle.std.specs.Char.{digit_value, is_digit}
use Rattle.std.proofs.lemmas.Int.Digits.{digits_value_more}
use borrow.Author.Tests.{ltb-true}
use Rattle.std.proofs.Math.Nat.{pow-suc, mul-le-mul_left}

pub digit_at : (radix : ℕ) (digits : List ℕ) (i : ℕ) → AllDigits radix digits → i < length digits → digit_value (get_or digits i 0) < radix
digit_at radix [] i all inside = absurd (omega arith)
digit_at radix (d ∷ digits) zero all inside = all.0
digit_at radix (d ∷ digits) (suc i) all inside = digit_at radix digits i all.1 (omega arith)

pub few_digits : (i : ℕ) → i ≤ 4 → 16 ^ i ≤ 65536
few_digits zero few = omega arith
few_digits (suc zero) few = omega arith
few_digits (suc (suc zero)) few = omega arith
few_digits (suc (suc (suc zero))) few = omega arith
few_digits (suc (suc (suc (suc zero)))) few = omega arith
few_digits (suc (suc (suc (suc (suc i))))) few = absurd (omega arith)

-- a digit more
pub more_digits : (n radix d i : ℕ) → n < 16 ^ i → radix ≤ 16 → d < radix → n * radix + d < 16 ^ (i + 1)
more_digits n radix d i small few digit = rw (add-one, pow-suc) (omega (arith, mul-le-mul_left n few))

-- what `to_digit` reads of a digit
pub digit_read : (o : Option ℕ) (value radix : ℕ) → SomeIff o (value < radix) value → value < radix → unwrap_or o 0 ≡ value
digit_read None value radix reads digit = absurd (reads digit)
digit_read (Some d) value radix reads digit = reads.1

pub digit_pushed : (radix : ℕ) (digits : List ℕ) (i n d : ℕ) → i < length digits → n ≡ digits_value radix (take i digits)
    → d ≡ digit_value (get_or digits i 0) → n * radix + d ≡ digits_value radix (take (i + 1) digits)
digit_pushed radix digits i n d inside front next =
    ap (λ m. m * radix + d) front ∙ ap (λ e. digits_value radix (take i digits) * radix + e) next ∙ sym (digits_value_more radix digits i inside)

front_digits : (radix x : ℕ) (xs : List ℕ) (n : ℕ) (b : Bool) → is_digit x radix ≡ b → AllDigits radix (take n xs) →
    AllDigits radix (take (cond b (1 + n) 0) (x ∷ xs))
front_digits radix x xs n true e all =
    let one : 1 + n ≡ suc n = omega arith in
    subst (λ k. AllDigits radix (take k (x ∷ xs))) (sym one) (ltb-true _ _ e, all)
front_digits radix x xs n false e all = tt

prefix_digits : (radix : ℕ) (text : List ℕ) → AllDigits radix (take (prefix_len (λ b. is_digit b radix) text) text)
prefix_digits radix [] = tt
prefix_digits radix (x ∷ xs) =
    front_digits radix x xs (prefix_len (λ b. is_digit b radix) xs) (is_digit x radix) refl (prefix_digits radix xs)

-- the digits that a text begins with are digits
pub run_digits : (radix n : ℕ) (text : List ℕ) → n ≡ length (take_while (λ b. is_digit b radix) text) → AllDigits radix (take n text)
run_digits radix n text e =
    let counted = e ∙ length-prefix_len (λ b. is_digit b radix) text in
    subst (λ k. AllDigits radix (take k text)) (sym counted) (prefix_digits radix text)
