-- Runs of bytes, read from a place on.
use Rattle.std.proofs.Common.{◌≡◌, ◌≢◌, ℕ, zero, suc, ◌+◌, ◌-◌, ◌<◌, ◌≤◌, Bool, true, false, not, ◌==◌, List, [], ◌∷◌}
use Rattle.std.proofs.Common.{◌++◌, length, get_or, take, drop, refl, sym, ap, ◌∙◌, inl, inr, append_assoc, append-nil}
use Rattle.std.proofs.Common.{arith, length-take, length-drop, drop-drop, cond}
use Rattle.std.specs.Char.{is_digit}
use Rattle.std.specs.List.{take_while, prefix_len}
use Rattle.std.specs.Prelude.{nat_le}
use Rattle.std.specs.Str.Parse.{digits_value}
use Rattle.std.proofs.lemmas.Bool.{and_parts, not-true, eqb-false, cases_Bool, cases_eq, eq-eqb, ne_eqb}
use Rattle.std.proofs.lemmas.List.{drop_more, drop_all, take_all}
use Rattle.std.proofs.lemmas.List.Sums.{prefix_len-le-length}
use Rattle.tt_text.specs.Backslash.{backslash, sequence, kind_of, Kind, Control, Newline, Octal, Hexadecimal, Itself}
use Rattle.tt_text.specs.Backslash.{leading_digits, octal_digits, hexadecimal_sequence, is_space_or_tab}
use Rattle.tt_lists.specs.Reading.{is_plain, front_run, prepend}
use Rattle.tt_lists.specs.declared.run.Run.{Run}

-- ---- a backslash sequence ends within its text

while_le : (p : ℕ → Bool) (text : List ℕ) → length (take_while p text) ≤ length text
while_le p text = omega (arith, length-take (prefix_len p text) text, prefix_len-le-length p text)

leading_le : (radix most : ℕ) (text : List ℕ) → length (leading_digits radix most text) ≤ length text
leading_le radix most text = omega (arith, while_le (λ b. is_digit b radix) (take most text), length-take most text)

octal_le : (text : List ℕ) → length (octal_digits text) ≤ length text
octal_le text = both (nat_le (digits_value 8 (leading_digits 8 3 text)) 255)
  where
    both : (few : Bool) → length (cond few (leading_digits 8 3 text) (take 2 (leading_digits 8 3 text))) ≤ length text
    both true = leading_le 8 3 text
    both false = omega (arith, length-take 2 (leading_digits 8 3 text), leading_le 8 3 text)

hexadecimal_le : (letter : ℕ) (digits : List ℕ) → (hexadecimal_sequence letter digits).takes ≤ 1 + length digits
hexadecimal_le letter [] = omega arith
hexadecimal_le letter (digit ∷ digits) = omega arith

sequence_le : (kind : Kind) (b : ℕ) (text : List ℕ) → (sequence kind b text).takes ≤ length (b ∷ text)
sequence_le (Control byte) b text = omega arith
sequence_le Newline b text = omega (arith, while_le is_space_or_tab text)
sequence_le Octal b text = octal_le (b ∷ text)
sequence_le (Hexadecimal most) b text = omega (arith, hexadecimal_le b (leading_digits 16 most text), leading_le 16 most text)
sequence_le Itself b text = omega arith

pub backslash_le : (text : List ℕ) → (backslash text).takes ≤ length text
backslash_le [] = omega arith
backslash_le (b ∷ text) = sequence_le (kind_of b) b text

-- ---- a run from a place on

abbrev pub joined : List ℕ → ℕ → Run → Run
joined value taken front_run = record { value = value ++ front_run.value; takes = taken + front_run.takes }

pub same_run : (v w : List ℕ) (m n : ℕ) → v ≡ w → m ≡ n → ◌≡◌ {A = Run} (record { value = v; takes = m }) (record { value = w; takes = n })
same_run v w m n e f = cc

pub run_skip : (stops : ℕ → Bool) (passed : ℕ) (text : List ℕ) → passed ≤ length text →
    front_run stops passed text ≡ joined [] passed (front_run stops 0 (drop passed text))
run_skip stops zero text h = same_run _ _ _ _ refl (omega arith)
run_skip stops (suc passed) [] h = absurd (omega arith)
run_skip stops (suc passed) (b ∷ text) h = ap (prepend []) (run_skip stops passed text (omega arith)) ∙ same_run _ _ _ _ refl (omega arith)

pub run-stopped : (stops : ℕ → Bool) (b : ℕ) (text : List ℕ) → stops b ≡ true → front_run stops 0 (b ∷ text) ≡ record { value = []; takes = 0 }
run-stopped stops b text h = rw (h, front_run) refl

pub run-letter : (stops : ℕ → Bool) (b : ℕ) (text : List ℕ) → stops b ≡ false → b ≢ 92 → front_run stops 0 (b ∷ text) ≡ prepend (b ∷ []) (front_run stops 0 text)
run-letter stops b text h e = let q = ne_eqb b 92 e in rw (h, q, front_run) refl

pub run-escape_kept : (stops : ℕ → Bool) (b : ℕ) (text : List ℕ) → stops b ≡ false → b ≡ 92 →
    front_run stops 0 (b ∷ text) ≡ prepend (backslash text).value (front_run stops (backslash text).takes text)
run-escape_kept stops b text h e = let q = eq-eqb b 92 e in rw (h, q, front_run) refl

pub run-escape : (stops : ℕ → Bool) (b : ℕ) (text : List ℕ) → stops b ≡ false → b ≡ 92 →
    front_run stops 0 (b ∷ text) ≡ joined (backslash text).value (1 + (backslash text).takes) (front_run stops 0 (drop (backslash text).takes text))
run-escape stops b text h e =
    run-escape_kept stops b text h e ∙ ap (prepend (backslash text).value) (run_skip stops (backslash text).takes text (backslash_le text))
    ∙ same_run _ _ _ _ refl (omega arith)

pub run_le : (stops : ℕ → Bool) (passed : ℕ) (text : List ℕ) → (front_run stops passed text).takes ≤ length text
run_le stops passed [] = omega arith
run_le stops (suc passed) (b ∷ text) = omega (arith, run_le stops passed text)
run_le stops zero (b ∷ text) =
    elim (cases_Bool (stops b)) [
      | inl p ↦ rw (run-stopped stops b text p) (omega arith)
      | inr p ↦ elim (cases_eq b 92) [
        | inl q ↦ rw (run-escape_kept stops b text p q) (omega (arith, run_le stops (backslash text).takes text))
        | inr q ↦ rw (run-letter stops b text p q) (omega (arith, run_le stops zero text))
      ]
    ]

-- a step of a loop that reads a run
pub letter_read : (stops : ℕ → Bool) (text value : List ℕ) (at : ℕ) → at < length text → stops (get_or text at 0) ≡ false → get_or text at 0 ≢ 92 →
    joined value at (front_run stops 0 (drop at text)) ≡ joined (value ++ (get_or text at 0 ∷ [])) (at + 1) (front_run stops 0 (drop (at + 1) text))
letter_read stops text value at within h e =
    ap (λ t. joined value at (front_run stops 0 t)) (drop_more text at 0 within)
    ∙ ap (joined value at) (run-letter stops (get_or text at 0) (drop (at + 1) text) h e)
    ∙ same_run _ _ _ _ (sym (append_assoc value (get_or text at 0 ∷ []) (front_run stops 0 (drop (at + 1) text)).value)) (omega arith)

pub escape_read : (stops : ℕ → Bool) (text value : List ℕ) (at : ℕ) → at < length text → stops (get_or text at 0) ≡ false → get_or text at 0 ≡ 92 →
    joined value at (front_run stops 0 (drop at text)) ≡ joined (value ++ (backslash (drop (at + 1) text)).value)
    (at + 1 + (backslash (drop (at + 1) text)).takes) (front_run stops 0 (drop (at + 1 + (backslash (drop (at + 1) text)).takes) text))
escape_read stops text value at within h e =
    let after = drop (at + 1) text in
    let takes = (backslash after).takes in
    ap (λ t. joined value at (front_run stops 0 t)) (drop_more text at 0 within)
    ∙ ap (joined value at) (run-escape stops (get_or text at 0) after h e)
    ∙ same_run _ _ _ _ (sym (append_assoc value (backslash after).value (front_run stops 0 (drop takes after)).value)) (omega arith)
    ∙ ap (λ t. joined (value ++ (backslash after).value) (at + 1 + takes) (front_run stops 0 t)) (drop-drop takes (at + 1) text)

pub all_read : (stops : ℕ → Bool) (text value : List ℕ) (at : ℕ) → length text ≤ at →
    joined value at (front_run stops 0 (drop at text)) ≡ record { value = value; takes = at }
all_read stops text value at past = ap (λ t. joined value at (front_run stops 0 t)) (drop_all at text past) ∙ same_run _ _ _ _ (append-nil value) (omega arith)

pub stop_read : (stops : ℕ → Bool) (text value : List ℕ) (at : ℕ) → at < length text → stops (get_or text at 0) ≡ true →
    joined value at (front_run stops 0 (drop at text)) ≡ record { value = value; takes = at }
stop_read stops text value at within h =
    ap (λ t. joined value at (front_run stops 0 t)) (drop_more text at 0 within)
    ∙ ap (joined value at) (run-stopped stops (get_or text at 0) (drop (at + 1) text) h)
    ∙ same_run _ _ _ _ (append-nil value) (omega arith)

-- plain bytes are read at once
plain_run : (stops : ℕ → Bool) (text : List ℕ) →
    front_run stops 0 text ≡ joined (take (prefix_len (is_plain stops) text) text) (prefix_len (is_plain stops) text)
    (front_run stops 0 (drop (prefix_len (is_plain stops) text) text))
plain_run stops [] = refl
plain_run stops (b ∷ text) =
    elim (cases_Bool (is_plain stops b)) [
      | inl p ↦ (
          let n : ℕ = prefix_len (is_plain stops) text in
          let parts = and_parts (not (stops b)) (not (b == 92)) p in
          let one : 1 + n ≡ suc n = omega arith in
          let front : take (1 + n) (b ∷ text) ≡ b ∷ take n text = ap (λ k. take k (b ∷ text)) one in
          let back : drop (1 + n) (b ∷ text) ≡ drop n text = ap (λ k. drop k (b ∷ text)) one in
          rw p (run-letter stops b text (not-true (stops b) parts.0) (eqb-false b 92 (not-true (b == 92) parts.1))
          ∙ ap (prepend (b ∷ [])) (plain_run stops text) ∙ same_run _ _ _ _ (sym (rw (front, back) refl)) (rw back (omega arith))))
      | inr p ↦ rw p (same_run _ _ _ _ refl (omega arith))
    ]

pub plain_read : (stops : ℕ → Bool) (text value : List ℕ) (at n : ℕ) → n ≡ prefix_len (is_plain stops) (drop at text) →
    joined value at (front_run stops 0 (drop at text)) ≡ joined (value ++ take n (drop at text)) (at + n) (front_run stops 0 (drop (at + n) text))
plain_read stops text value at n e =
    ap (joined value at) (plain_run stops (drop at text) ∙ ap (λ k. joined (take k (drop at text)) k (front_run stops 0 (drop k (drop at text)))) (sym e))
    ∙ same_run _ _ _ _ (sym (append_assoc value (take n (drop at text)) (front_run stops 0 (drop n (drop at text))).value)) (omega arith)
    ∙ ap (λ t. joined (value ++ take n (drop at text)) (at + n) (front_run stops 0 t)) (drop-drop n at text)

-- at a plain byte there is one at least
pub plain_some : (stops : ℕ → Bool) (text : List ℕ) (at : ℕ) → at < length text → stops (get_or text at 0) ≡ false → get_or text at 0 ≢ 92 →
    1 ≤ prefix_len (is_plain stops) (drop at text)
plain_some stops text at within h e = let q = ne_eqb (get_or text at 0) 92 e in rw (drop_more text at 0 within, h, q) (omega arith)

-- the slice from a place on
pub rest_whole : (text : List ℕ) (at : ℕ) → take (length text - at) (drop at text) ≡ drop at text
rest_whole text at = take_all (length text - at) (drop at text) (omega (arith, length-drop at text))
