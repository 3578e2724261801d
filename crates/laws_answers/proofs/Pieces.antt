-- `format` always comes to something: each piece of a template is shorter than the template.
use Rattle.std.proofs.Common.{◌≡◌, inl, inr, ◌==◌, ◌||◌, ◌<◌, ◌≤◌, ℕ, zero, suc, Bool, true, false, ℤ, List, [], ◌∷◌, ◌++◌, Option, Some, None, Result, Ok, Err}
use Rattle.std.proofs.Common.{ap, arith, codes, cond, drop, length, refl, sym, subst, ◌∙◌, if◌then◌else◌, length-drop, not}
use Rattle.std.proofs.lemmas.Bool.{cases_lt}
use Rattle.std.specs.Prelude.{unsigned_abs}
use Rattle.tt_format.specs.Fields.{Piece, Printed, Refused, bad_specifier, by_letter, by_width, field, is_letter}
use Rattle.tt_format.specs.Fields.{is_negative, is_out_of_place, letters, piece, piece_of_letter, text_piece}
use Rattle.tt_format.specs.Fields.{with_number}
use Rattle.tt_format.specs.Formatting.{IsFormatted, ended, longest, printed, refused, too_long}
use Rattle.tt_format.specs.Printing.{has_flag, kind_of}
use Rattle.tt_format.specs.Specifiers.{Specifier, after_digits, after_flags, after_most, after_size, after_width, specifier}
use Rattle.tt_format.specs.declared.Formatted.{Formatted}
use Rattle.tt_format.specs.declared.Formatted.TheVariants.{Made, Bad}
use Rattle.laws_answers.proofs.Tables.{chosen}
use Rattle.std.proofs.lemmas.List.Sums.{take_while-cons}
use Rattle.tt_number.specs.Messages.{number_message}
use Rattle.tt_number.specs.Numerals.{whole_of}
use Rattle.tt_number.specs.declared.numeral.NumberFault.{NumberFault}

-- what is printed leaves fewer bytes than these
abbrev Leaves : ℕ → Piece → Type 0
Leaves n (Printed bytes rest values) = length rest < n
Leaves n (Refused message) = Unit {0}

-- ---- what stands before a letter ----

dropped : {X : Type 0} (k : ℕ) (xs : List X) → length (drop k xs) ≤ length xs
dropped k xs = let long = length-drop k xs in omega (arith, long)

width-left : (text : List ℕ) → length (after_width text) ≤ length text
width-left [] = omega arith
width-left (b ∷ text) = by (b == 42)
  where
    by : (star : Bool) → length (if star then text else after_digits (b ∷ text)) ≤ length (b ∷ text)
    by true = omega arith
    by false = dropped _ (b ∷ text)

most-left : (text : List ℕ) → length (after_most text) ≤ length text
most-left [] = omega arith
most-left (b ∷ text) = by (b == 46)
  where
    by : (point : Bool) → length (if point then after_digits text else b ∷ text) ≤ length (b ∷ text)
    by true = let less : length (after_digits text) ≤ length text = dropped _ text in omega (arith, less)
    by false = omega arith

left : (text : List ℕ) → length (specifier text).rest ≤ length text
left text =
    let flags : length (after_flags text) ≤ length text = dropped _ text in
    let width = width-left (after_flags text) in
    let most = most-left (after_width (after_flags text)) in
    let limited = after_most (after_width (after_flags text)) in
    let size : length (after_size limited) ≤ length limited = dropped _ limited in
    omega (arith, flags, width, most, size)

-- ---- a field ----

number-leaves : (n : ℕ) (values : List (List ℕ)) (go : ℤ → List (List ℕ) → Piece) → ((number : ℤ) (later : List (List ℕ)) → Leaves n (go number later))
    → Leaves n (with_number values go)
number-leaves n [] go each = tt
number-leaves n (value ∷ later) go each = by (whole_of value)
  where
    by : (read : Result ℤ NumberFault) → Leaves n (elim read [ Ok number ↦ go number later | Err fault ↦ Refused (number_message fault value) ])
    by (Ok number) = each number later
    by (Err fault) = tt

module _ (n : ℕ) (text : List ℕ) (s : Specifier) (filled : Bool) (width : ℕ) (rest : List ℕ) (values : List (List ℕ)) (less : length rest < n) where
  value-leaves : (values : List (List ℕ)) → Leaves n (text_piece filled width s.most rest values)
  value-leaves [] = tt
  value-leaves (value ∷ later) = less

  kind-leaves : (b : ℕ) → Leaves n (piece_of_letter (kind_of b) text s filled width rest values)
  kind-leaves b =
      chosen (λ kind. Leaves n (piece_of_letter kind text s filled width rest values)) (b == 100 || b == 105) (number-leaves n values _ (λ number later. less))
      (chosen (λ kind. Leaves n (piece_of_letter kind text s filled width rest values)) (b == 117) (number-leaves n values _ (λ number later. less))
      (chosen (λ kind. Leaves n (piece_of_letter kind text s filled width rest values)) (b == 120) (number-leaves n values _ (λ number later. less))
      (chosen (λ kind. Leaves n (piece_of_letter kind text s filled width rest values)) (b == 88) (number-leaves n values _ (λ number later. less))
      (chosen (λ kind. Leaves n (piece_of_letter kind text s filled width rest values)) (b == 111) (number-leaves n values _ (λ number later. less))
      (chosen (λ kind. Leaves n (piece_of_letter kind text s filled width rest values)) (b == 98) (number-leaves n values _ (λ number later. less))
      (chosen (λ kind. Leaves n (piece_of_letter kind text s filled width rest values)) (b == 99) (number-leaves n values _ (λ number later. less))
      (chosen (λ kind. Leaves n (piece_of_letter kind text s filled width rest values)) (b == 115) (value-leaves values)
      (chosen (λ kind. Leaves n (piece_of_letter kind text s filled width rest values)) (b == 37) less tt))))))))

letter-leaves : (n : ℕ) (text : List ℕ) (s : Specifier) (filled : Bool) (width : ℕ) (values : List (List ℕ)) → length text ≤ n
    → Leaves n (by_letter text s filled width values)
letter-leaves n [] s filled width values less = tt
letter-leaves n (b ∷ rest) s filled width values less = by (is_out_of_place s.most b)
  where
    by : (misplaced : Bool)
        → Leaves n (if misplaced then Refused (bad_specifier (codes ".")) else piece_of_letter (kind_of b) (b ∷ rest) s filled width rest values)
    by true = tt
    by false = kind-leaves n (b ∷ rest) s filled width rest values (omega (arith, less)) b

field-leaves : (n : ℕ) (s : Specifier) (values : List (List ℕ)) (width : Option ℕ) → length s.rest ≤ n → Leaves n (by_width width s values)
field-leaves n s values (Some width) less = letter-leaves n s.rest s (has_flag 45 s.flags) width values less
field-leaves n s values None less =
    number-leaves n values _ (λ number later. letter-leaves n s.rest s (has_flag 45 s.flags || is_negative number) (unsigned_abs number) later less)

-- ---- a piece ----

run-left : (b : ℕ) (text : List ℕ) → is_letter b ≡ true → length (drop (length (letters (b ∷ text))) (b ∷ text)) < length (b ∷ text)
run-left b text is =
    subst (λ run. length (drop (length run) (b ∷ text)) < length (b ∷ text))
    (sym (take_while-cons is_letter b text ∙ ap (λ c. cond c (b ∷ letters text) []) is))
    (let less : length (drop (length (letters text)) text) ≤ length text = dropped _ text in omega (arith, less))

piece-leaves : (b : ℕ) (text : List ℕ) (values : List (List ℕ)) → Leaves (length (b ∷ text)) (piece (b ∷ text) values)
piece-leaves b text values = by (b == 37) refl
  where
    by : (percent : Bool) → (b == 37) ≡ percent
        → Leaves (length (b ∷ text))
        (if percent then field text values else Printed (letters (b ∷ text)) (drop (length (letters (b ∷ text))) (b ∷ text)) values)
    by true is = let less = left text in field-leaves (length (b ∷ text)) (specifier text) values (specifier text).width (omega (arith, less))
    by false is = run-left b text (ap not is)

-- ---- a template ----

Comes : List ℕ → List ℕ → List (List ℕ) → Type 0
Comes before template values = (answer : Formatted) × IsFormatted before template values answer

goes : (most : ℕ) (before template : List ℕ) (values : List (List ℕ)) → length template < most → Comes before template values
unfolding Comes
goes zero before template values less = absurd (omega (arith, less))
goes (suc most) before [] values less = (Made before, ended refl)
goes (suc most) before (b ∷ text) values less =
    by (piece (b ∷ text) values) refl (piece-leaves b text values)
    (λ bytes rest later shorter. goes most (before ++ bytes) rest later (omega (arith, less, shorter)))
  where
    by : (came : Piece) → piece (b ∷ text) values ≡ came → Leaves (length (b ∷ text)) came
        → ((bytes rest : List ℕ) (later : List (List ℕ)) → length rest < length (b ∷ text) → Comes (before ++ bytes) rest later)
        → Comes before (b ∷ text) values
    by (Refused message) is leaves further = (Bad message, refused (omega arith) is)
    by (Printed bytes rest later) is leaves further =
        elim (cases_lt longest (length (before ++ bytes))) [
          | inl long ↦ (Bad (codes "result too long"), too_long (omega arith) is long)
          | inr fits ↦ (let on = further bytes rest later leaves in (on.0, printed (omega arith) is fits on.1))
        ]

pub formats : (template : List ℕ) (values : List (List ℕ)) → (answer : Formatted) × IsFormatted [] template values answer
unfolding Comes
formats template values = goes (suc (length template)) [] template values (omega arith)
