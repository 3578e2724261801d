-- Texts of digits, and the numbers that they write.
use Rattle.std.proofs.Common.{rules, ◌≡◌, ◌≤◌, ◌<◌, ◌^◌, ℕ, true, List, length, Result, Ok, Err, IfSome, IfNone, arith, subst}
use Rattle.std.specs.Char.{is_ascii_digit}
use Rattle.std.specs.List.{list_all}
use Rattle.std.specs.Result.{result_ok}
use Rattle.std.specs.Str.Parse.{ParsesUnsigned, digits_value}
use Rattle.std.proofs.lemmas.Str.Parse.{IsNumeralModel, numerals_by_value, parse_digits}
use Rattle.tt_words.specs.Asked.{Writes}

-- digits, and the number that they write
own : IsNumeralModel (λ text. list_all is_ascii_digit text ≡ true) (digits_value 10)
own = numerals_by_value _ (search rules)

-- what `parse` answers to 20 digits or fewer
pub parsed_some : {E : Type 0} (text : List ℕ) (r : Result ℕ E) → ParsesUnsigned 64 10 text r → length text ≤ 20 →
    list_all is_ascii_digit text ≡ true → IfSome (result_ok r) (Writes text)
parsed_some {E} text (Ok number) h few digits =
    let is = parse_digits own {E = E} 64 text (Ok number) h digits in
    record { some = omega (arith, is.0.0); few = few; digits = digits; value = is.1 }
parsed_some text (Err e) h few digits = tt

pub parsed_none : {E : Type 0} (text : List ℕ) (r : Result ℕ E) → ParsesUnsigned 64 10 text r →
    list_all is_ascii_digit text ≡ true → IfNone (result_ok r) ((number : ℕ) → number < 2 ^ 64 → ¬ (Writes text number))
parsed_none text (Ok number) h digits = tt
parsed_none {E} text (Err e) h digits =
    let no = parse_digits own {E = E} 64 text (Err e) h digits in
    λ number small writes.
    no (omega (arith, writes.some), subst (λ (n : ℕ). n < 2 ^ 64) writes.value small)
