-- A backslash sequence is no longer than the text that it stands in.
use Rattle.std.proofs.Common.{ℕ, suc, ◌+◌, ◌<◌, ◌≤◌, Bool, true, false, List, [], ◌∷◌, length, drop, take, arith, if◌then◌else◌}
use Rattle.std.proofs.lemmas.List.{length-drop, length-take}
use Rattle.std.specs.List.{take_while, prefix_len}
use Rattle.std.specs.Prelude.{nat_le}
use Rattle.std.specs.Char.{is_digit}
use Rattle.std.specs.Str.Parse.{digits_value}
use Rattle.tt_text.specs.Backslash.{backslash, is_space_or_tab, octal_digits, leading_digits, sequence}
use Rattle.tt_text.specs.Backslash.{hexadecimal_sequence, kind_of, Kind, Control, Newline, Octal, Hexadecimal, Itself}

shorter : (n : ℕ) (text : List ℕ) → length (take n text) ≤ length text
shorter n text = omega (arith, length-take n text)

while_shorter : (p : ℕ → Bool) (n : ℕ) (text : List ℕ) → length (take_while p (take n text)) ≤ length text
while_shorter p n text = omega (arith, shorter n text, shorter (prefix_len p (take n text)) (take n text))

chosen_shorter : (c : Bool) (xs ys text : List ℕ) → length xs ≤ length text → length ys ≤ length text → length (if c then xs else ys) ≤ length text
chosen_shorter true xs ys text h k = h
chosen_shorter false xs ys text h k = k

digits_within : (letter : ℕ) (digits text : List ℕ) → length digits ≤ length text → (hexadecimal_sequence letter digits).takes ≤ suc (length text)
digits_within letter [] text h = omega arith
digits_within letter (d ∷ digits) text h = omega arith

octal_within : (b : ℕ) (text : List ℕ) → length (octal_digits (b ∷ text)) ≤ length (b ∷ text)
octal_within b text =
    let digits = leading_digits 8 3 (b ∷ text) in
    let all_shorter : length digits ≤ length (b ∷ text) = while_shorter (λ c. is_digit c 8) 3 (b ∷ text) in
    let two_shorter : length (take 2 digits) ≤ length (b ∷ text) = omega (arith, shorter 2 digits) in
    chosen_shorter (nat_le (digits_value 8 digits) 255) digits (take 2 digits) (b ∷ text) all_shorter two_shorter

sequence_within : (kind : Kind) (b : ℕ) (text : List ℕ) → (sequence kind b text).takes ≤ suc (length text)
sequence_within (Control byte) b text = omega arith
sequence_within Newline b text = omega (arith, shorter (prefix_len is_space_or_tab text) text)
sequence_within Octal b text = octal_within b text
sequence_within (Hexadecimal most) b text = digits_within b _ text (while_shorter (λ c. is_digit c 16) most text)
sequence_within Itself b text = omega arith

pub backslash_within : (text : List ℕ) → (backslash text).takes ≤ length text
backslash_within [] = omega arith
backslash_within (b ∷ text) = sequence_within (kind_of b) b text

pub backslash_at_within : (text : List ℕ) (i : ℕ) → i < length text → i + 1 + (backslash (drop (i + 1) text)).takes ≤ length text
backslash_at_within text i h = omega (arith, backslash_within (drop (i + 1) text), length-drop (i + 1) text)
