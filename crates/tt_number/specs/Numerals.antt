-- How a text is read as a whole number (expr(n), OPERANDS): a grammar, and the function that follows it.
use Rattle.std.specs.Prelude.{◌≡◌, ℕ, ◌+◌, ◌*◌, ◌^◌, nat_lt, Bool, false, ◌&&◌, ◌||◌, if◌then◌else◌, ◌==◌, ◌⊎◌, ◌↔◌}
use Rattle.std.specs.Prelude.{IsTrue, ℤ, pos, neg_ℤ, FitsSigned, List, [], ◌∷◌, ◌++◌, length, take, drop, position}
use Rattle.std.specs.Prelude.{Option, Some, None, Result, Ok, Err}
use Rattle.std.specs.Char.{digit_value, is_digit}
use Rattle.std.specs.Fmt.{signed_decimal}
use Rattle.std.specs.Int.{w64}
use Rattle.std.specs.List.{list_all}
use Rattle.tt_text.specs.Characters.{is_white_space, without_white_front}
use Rattle.tt_number.specs.Operators.{fits}
use Rattle.tt_number.specs.declared.numeral.NumberFault.{NumberFault}
use Rattle.tt_number.specs.declared.numeral.NumberFault.TheVariants.{NotWhole, TooLarge, Float}

-- ---- digits

-- the sum of the digits, each times the power of the base that its place stands for
abbrev pub digit_sum : ℕ → List ℕ → ℕ
digit_sum base [] = 0
digit_sum base (digit ∷ digits) = digit_value digit * base ^ length digits + digit_sum base digits

-- each byte is a digit of the base
abbrev pub all_digits : ℕ → List ℕ → Bool
all_digits base digits = list_all (λ digit. is_digit digit base) digits

-- one digit of the base or more
abbrev pub is_numeral : ℕ → List ℕ → Bool
is_numeral base digits = nat_lt 0 (length digits) && all_digits base digits

-- ---- the grammar

-- the letters after a first `0` that name a base: x, o and b in either case
abbrev pub is_hexadecimal_mark : ℕ → Bool
is_hexadecimal_mark b = b == 120 || b == 88

abbrev pub is_octal_mark : ℕ → Bool
is_octal_mark b = b == 111 || b == 79

abbrev pub is_binary_mark : ℕ → Bool
is_binary_mark b = b == 98 || b == 66

-- an unsigned whole number, with its base and its digits
pub data IsUnsigned : List ℕ → ℕ → List ℕ → Type 0 where
  hexadecimal : {mark : ℕ} {digits : List ℕ} →
      IsTrue (is_hexadecimal_mark mark) →
      IsTrue (is_numeral 16 digits) →
      IsUnsigned (48 ∷ mark ∷ digits) 16 digits
  octal : {mark : ℕ} {digits : List ℕ} →
      IsTrue (is_octal_mark mark) →
      IsTrue (is_numeral 8 digits) →
      IsUnsigned (48 ∷ mark ∷ digits) 8 digits
  binary : {mark : ℕ} {digits : List ℕ} →
      IsTrue (is_binary_mark mark) →
      IsTrue (is_numeral 2 digits) →
      IsUnsigned (48 ∷ mark ∷ digits) 2 digits
  -- a first `0` with octal digits after it
  leading_zero : {digits : List ℕ} →
      IsTrue (is_numeral 8 digits) →
      IsUnsigned (48 ∷ digits) 8 digits
  -- decimal digits, of which the first is no `0` if others follow
  decimal : {digit : ℕ} {digits : List ℕ} →
      IsTrue (is_numeral 10 (digit ∷ digits)) →
      (digit ≡ 48 → digits ≡ []) →
      IsUnsigned (digit ∷ digits) 10 (digit ∷ digits)

-- a sign or none, and what it makes of a number
pub data IsSign : List ℕ → (ℕ → ℤ) → Type 0 where
  none : IsSign [] pos
  plus : IsSign (43 ∷ []) pos
  minus : IsSign (45 ∷ []) (λ n. neg_ℤ (pos n))

-- digits with a point among them, and one digit at least
pub record IsPointed (text : List ℕ) : Type 0 where
  pub front : List ℕ
  pub back : List ℕ
  pub spelled : text ≡ front ++ (46 ∷ back)
  pub digits : IsTrue (is_numeral 10 (front ++ back))

-- `e` or `E`
abbrev pub is_exponent_mark : ℕ → Bool
is_exponent_mark b = b == 101 || b == 69

-- an unsigned floating-point number: digits with a point, an exponent or both
pub data IsFloat : List ℕ → Type 0 where
  pointed : {text : List ℕ} → IsPointed text → IsFloat text
  scaled : {text : List ℕ} (front sign digits : List ℕ) (mark : ℕ) (signed : ℕ → ℤ) →
      text ≡ front ++ (mark ∷ (sign ++ digits)) →
      IsTrue (is_numeral 10 front) ⊎ IsPointed front →
      IsTrue (is_exponent_mark mark) →
      IsSign sign signed →
      IsTrue (is_numeral 10 digits) →
      IsFloat text

-- a text is a sign and what follows it, with white space around them
pub record IsSigned (text sign unsigned : List ℕ) : Type 0 where
  pub before : List ℕ
  pub after : List ℕ
  pub spelled : text ≡ before ++ (sign ++ (unsigned ++ after))
  pub white_before : IsTrue (list_all is_white_space before)
  pub white_after : IsTrue (list_all is_white_space after)

-- a text spells a whole number, of any size
pub record Spells (text : List ℕ) (number : ℤ) : Type 0 where
  pub sign : List ℕ
  pub unsigned : List ℕ
  pub digits : List ℕ
  pub base : ℕ
  pub signed : ℕ → ℤ
  pub form : IsSigned text sign unsigned
  pub has_sign : IsSign sign signed
  pub has_digits : IsUnsigned unsigned base digits
  pub value : number ≡ signed (digit_sum base digits)

-- a text spells a floating-point number
pub record SpellsFloat (text : List ℕ) : Type 0 where
  pub sign : List ℕ
  pub unsigned : List ℕ
  pub signed : ℕ → ℤ
  pub form : IsSigned text sign unsigned
  pub has_sign : IsSign sign signed
  pub float : IsFloat unsigned

-- what a text is read as, by the grammar
abbrev pub IsReading : List ℕ → Result ℤ NumberFault → Type 0
IsReading text (Ok number) = Spells text number × FitsSigned w64 number
IsReading text (Err TooLarge) = (number : ℤ) × Spells text number × (¬ FitsSigned w64 number)
IsReading text (Err Float) = SpellsFloat text
IsReading text (Err NotWhole) = ((number : ℤ) → ¬ Spells text number) × (¬ SpellsFloat text)

-- ---- the function

abbrev pub without_white_back : List ℕ → List ℕ
without_white_back [] = []
without_white_back (b ∷ text) = if list_all is_white_space (b ∷ text) then [] else b ∷ without_white_back text

-- a text without the white space around it
unfoldable pub trimmed : List ℕ → List ℕ
trimmed text = without_white_back (without_white_front text)

abbrev pub is_minus_first : List ℕ → Bool
is_minus_first [] = false
is_minus_first (b ∷ text) = b == 45

-- what follows a sign
abbrev pub unsigned_part : List ℕ → List ℕ
unsigned_part [] = []
unsigned_part (b ∷ text) = if b == 43 || b == 45 then text else b ∷ text

-- the base that a letter after a first `0` names
abbrev pub base_of_mark : ℕ → Option ℕ
base_of_mark mark =
    if is_hexadecimal_mark mark then Some 16 else
    if is_octal_mark mark then Some 8 else
    if is_binary_mark mark then Some 2 else None

-- the base and the digits of an unsigned number; a byte after a first `0` that is no mark is a digit itself
abbrev pub after_zero : Option ℕ → ℕ → List ℕ → ℕ × List ℕ
after_zero (Some base) mark digits = (base, digits)
after_zero None digit digits = (8, digit ∷ digits)

abbrev pub base_and_digits : List ℕ → ℕ × List ℕ
base_and_digits [] = (10, [])
base_and_digits (digit ∷ []) = (10, digit ∷ [])
base_and_digits (digit ∷ mark ∷ digits) =
    if digit == 48 then after_zero (base_of_mark mark) mark digits else (10, digit ∷ mark ∷ digits)

-- the number that digits write, where they are digits
abbrev pub number_of : ℕ × List ℕ → Option ℕ
number_of (base, digits) = if is_numeral base digits then Some (digit_sum base digits) else None

abbrev pub is_point : ℕ → Bool
is_point b = b == 46

-- the place of the point divides digits, of which there is one at least
abbrev pub divides_digits : List ℕ → Option ℕ → Bool
divides_digits text None = false
divides_digits text (Some at) =
    nat_lt 1 (length text) && all_digits 10 (take at text) && all_digits 10 (drop (at + 1) text)

abbrev pub is_pointed : List ℕ → Bool
is_pointed text = divides_digits text (position is_point text)

-- what stands before the exponent's mark, and what stands after it
abbrev pub is_scaled : List ℕ → List ℕ → Bool
is_scaled front exponent = (is_numeral 10 front || is_pointed front) && is_numeral 10 (unsigned_part exponent)

abbrev pub is_float_with : List ℕ → Option ℕ → Bool
is_float_with text None = is_pointed text
is_float_with text (Some at) = is_scaled (take at text) (drop (at + 1) text)

unfoldable pub is_float : List ℕ → Bool
is_float text = is_float_with text (position is_exponent_mark text)

-- a sign and a number, cut at signed 64 bits
abbrev pub signed_number : Bool → ℕ → Result ℤ NumberFault
signed_number negative size =
    let number = if negative then neg_ℤ (pos size) else pos size in
    if fits number then Ok number else Err TooLarge

-- what a sign and what follows it are read as, if those digits write a number or none
abbrev pub signed_reading : Bool → List ℕ → Option ℕ → Result ℤ NumberFault
signed_reading negative unsigned (Some size) = signed_number negative size
signed_reading negative unsigned None = if is_float unsigned then Err Float else Err NotWhole

abbrev pub reading_of : List ℕ → Result ℤ NumberFault
reading_of text =
    signed_reading (is_minus_first text) (unsigned_part text) (number_of (base_and_digits (unsigned_part text)))

-- what a text is read as
unfoldable pub whole_of : List ℕ → Result ℤ NumberFault
whole_of text = reading_of (trimmed text)

-- the function answers what the grammar says, and nothing else
abbrev pub ReadingLaw : Type 0
ReadingLaw =
    (text : List ℕ) (reading : Result ℤ NumberFault) → (whole_of text ≡ reading) ↔ IsReading text reading

-- the decimal text of a number is read as that number
abbrev pub DecimalLaw : Type 0
DecimalLaw = (number : ℤ) → FitsSigned w64 number → whole_of (signed_decimal number) ≡ Ok number
