-- What a backslash and the bytes after it stand for (Tcl(n), rule 9, backslash substitution).
use Rattle.std.specs.Prelude.{ℕ, ◌+◌, Bool, ◌||◌, if◌then◌else◌, nat_le, ◌==◌, List, [], ◌∷◌, length, take, take_while}
use Rattle.std.specs.Int.{is_in_range}
use Rattle.std.specs.Char.{encode_utf8, is_digit}
use Rattle.std.specs.Str.Parse.{digits_value}
use Rattle.tt_text.specs.Characters.{is_octal_digit}

-- a backslash sequence: the bytes that it stands for, and how many bytes it has after its backslash
pub record Sequence : Type 0 where
  pub value : List ℕ
  pub takes : ℕ

-- what the byte after a backslash says of the sequence
pub data Kind : Type 0 where
  Control : (byte : ℕ) → Kind  -- it stands for that byte
  Newline : Kind  -- it ends a line, which goes on after it
  Octal : Kind  -- it is the first octal digit
  Hexadecimal : (most : ℕ) → Kind  -- at most so many hexadecimal digits follow
  Itself : Kind  -- it stands for itself

-- the table of the bytes after a backslash
abbrev pub kind_of : ℕ → Kind
kind_of b =
    if b == 97 then Control 7  -- \a
    else if b == 98 then Control 8  -- \b
    else if b == 102 then Control 12  -- \f
    else if b == 110 then Control 10  -- \n
    else if b == 114 then Control 13  -- \r
    else if b == 116 then Control 9  -- \t
    else if b == 118 then Control 11  -- \v
    else if b == 10 then Newline
    else if b == 120 then Hexadecimal 2  -- \x
    else if b == 117 then Hexadecimal 4  -- \u
    else if is_octal_digit b then Octal
    else Itself

-- a space or a tab
abbrev pub is_space_or_tab : ℕ → Bool
is_space_or_tab b = b == 32 || b == 9

-- at most so many digits of the radix at the front
abbrev pub leading_digits : ℕ → ℕ → List ℕ → List ℕ
leading_digits radix most text = take_while (λ b. is_digit b radix) (take most text)

-- one to three octal digits at the front, the third only while the number is at most 255
abbrev pub octal_digits : List ℕ → List ℕ
octal_digits text =
    let digits = leading_digits 8 3 text in
    if nat_le (digits_value 8 digits) 255 then digits else take 2 digits

-- the bytes of a code point in UTF-8; a surrogate is written as U+FFFD
abbrev pub character_of : ℕ → List ℕ
character_of code = encode_utf8 (if is_in_range 0xD800 0xDFFF code then 0xFFFD else code)

-- the byte itself
abbrev pub stands_for_itself : ℕ → Sequence
stands_for_itself b = record { value = b ∷ []; takes = 1 }

-- the code point that hexadecimal digits after `x` or `u` write; without digits the letter itself
abbrev pub hexadecimal_sequence : ℕ → List ℕ → Sequence
hexadecimal_sequence letter [] = stands_for_itself letter
hexadecimal_sequence letter (digit ∷ digits) =
    record { value = character_of (digits_value 16 (digit ∷ digits)); takes = 1 + length (digit ∷ digits) }

-- the sequence of a kind, whose first byte after the backslash is b, with the text after that
abbrev pub sequence : Kind → ℕ → List ℕ → Sequence
sequence (Control byte) b text = record { value = byte ∷ []; takes = 1 }
sequence Newline b text = record { value = 32 ∷ []; takes = 1 + length (take_while is_space_or_tab text) }
sequence Octal b text =
    let digits = octal_digits (b ∷ text) in
    record { value = character_of (digits_value 8 digits); takes = length digits }
sequence (Hexadecimal most) b text = hexadecimal_sequence b (leading_digits 16 most text)
sequence Itself b text = stands_for_itself b

-- the sequence of a backslash before this text: the backslash itself at the end of a text
abbrev pub backslash : List ℕ → Sequence
backslash [] = record { value = 92 ∷ []; takes = 0 }
backslash (b ∷ text) = sequence (kind_of b) b text
