-- Digits at the front of a text.
use Rattle.std.proofs.Common.{◌≡◌, ℕ, Bool, true, false, List, [], ◌∷◌, length, take, refl, ap, ◌∙◌}
use Rattle.std.specs.Prelude.{take_while, cond}
use Rattle.std.specs.Char.{is_digit}
use Rattle.std.specs.List.{list_all, prefix_len}
use Rattle.std.proofs.lemmas.List.{length-take, take_min}
use Rattle.std.proofs.lemmas.List.Sums.{take_while-cons}
use Rattle.tt_number.specs.Numerals.{all_digits}
use Rattle.tt_format.specs.Specifiers.{decimal_digits}

all_cases : (p : ℕ → Bool) (x : ℕ) (xs : List ℕ) (v : Bool) → p x ≡ v → list_all p (take_while p xs) ≡ true →
    list_all p (cond v (x ∷ take_while p xs) []) ≡ true
all_cases p x xs true e h = rw (e, h) refl
all_cases p x xs false e h = refl

all_taken : (p : ℕ → Bool) (xs : List ℕ) → list_all p (take_while p xs) ≡ true
all_taken p [] = refl
all_taken p (x ∷ xs) = ap (list_all p) (take_while-cons p x xs) ∙ all_cases p x xs (p x) refl (all_taken p xs)

-- the longest run at the front is cut off by its length
pub taken : (p : ℕ → Bool) (xs : List ℕ) → take (length (take_while p xs)) xs ≡ take_while p xs
taken p xs = ap (λ k. take k xs) (length-take (prefix_len p xs) xs) ∙ take_min (prefix_len p xs) xs

pub front_is : (text front : List ℕ) (n : ℕ) → n ≡ length (decimal_digits text) → front ≡ take n text → front ≡ decimal_digits text
front_is text front n e f = f ∙ ap (λ k. take k text) e ∙ taken (λ b. is_digit b 10) text

pub front_digits : (text front : List ℕ) (n : ℕ) → n ≡ length (decimal_digits text) → front ≡ take n text → all_digits 10 front ≡ true
front_digits text front n e f = ap (all_digits 10) (front_is text front n e f) ∙ all_taken (λ b. is_digit b 10) text
