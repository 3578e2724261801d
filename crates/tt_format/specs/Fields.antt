-- A template and its values, piece by piece from the left (format(n)).
use Rattle.std.specs.Prelude.{ℕ, Bool, true, false, not, ◌&&◌, ◌||◌, ◌==◌, if◌then◌else◌, ℤ, pos, negsuc}
use Rattle.std.specs.Prelude.{unsigned_abs, List, [], ◌∷◌, ◌++◌, length, take, drop, take_while, slice_index_or}
use Rattle.std.specs.Prelude.{Option, Some, None, is_some, Ok, Err, codes}
use Rattle.tt_text.specs.Backslash.{character_of}
use Rattle.tt_text.specs.Characters.{characters}
use Rattle.tt_number.specs.Messages.{number_message}
use Rattle.tt_number.specs.Numerals.{whole_of}
use Rattle.tt_strings.specs.Places.{bytes_of}
use Rattle.tt_format.specs.Printing.{code_point, fill_of, has_flag, kind_of, layout, numeral, sign}
use Rattle.tt_format.specs.Specifiers.{Specifier, specifier}
use Rattle.tt_format.specs.declared.kind.Base.{Base}
use Rattle.tt_format.specs.declared.kind.Kind.{Kind}
use Rattle.tt_format.specs.declared.kind.Kind.TheVariants.{Number, Code, Characters, Percent}

-- ---- one piece

-- a piece prints something, and the template and the values after it are left; or it is refused with a message
pub data Piece : Type 0 where
  Printed : (bytes : List ℕ) (rest : List ℕ) (values : List (List ℕ)) → Piece
  Refused : (message : List ℕ) → Piece

abbrev pub not_enough : List ℕ
not_enough = codes "not enough arguments for all format specifiers"

abbrev pub bad_specifier : List ℕ → List ℕ
bad_specifier letter = codes "bad field specifier \"" ++ (letter ++ codes "\"")

-- the next value is read as a number, with which the piece goes on
abbrev pub with_number : List (List ℕ) → (ℤ → List (List ℕ) → Piece) → Piece
with_number [] go = Refused not_enough
with_number (value ∷ later) go =
    elim (whole_of value) [ Ok n ↦ go n later | Err fault ↦ Refused (number_message fault value) ]

-- the first characters of a value, if their number is limited
abbrev pub at_most : Option ℕ → List ℕ → List ℕ
at_most None value = value
at_most (Some n) value = bytes_of (take n (characters value))

-- a field that prints a number; `left` says that it is filled at its end, and `rest` is the template after it
abbrev pub number_piece : Base → (flags : List ℕ) (left : Bool) (width : ℕ) (rest : List ℕ) → List (List ℕ) → Piece
number_piece base flags left width rest values =
    with_number values (λ n later.
    Printed (layout (fill_of left (has_flag 48 flags)) width (sign base flags n) (numeral base n)) rest later)

-- a field that prints the character of a code point
abbrev pub code_piece : (left : Bool) (width : ℕ) (rest : List ℕ) → List (List ℕ) → Piece
code_piece left width rest values =
    with_number values (λ n later.
    Printed (layout (fill_of left false) width [] (character_of (code_point n))) rest later)

-- a field that prints a value, or its first characters
abbrev pub text_piece : (left : Bool) (width : ℕ) (most : Option ℕ) (rest : List ℕ) → List (List ℕ) → Piece
text_piece left width most rest [] = Refused not_enough
text_piece left width most rest (value ∷ later) =
    Printed (layout (fill_of left false) width [] (at_most most value)) rest later

-- a field that prints a percent sign, and takes no value
abbrev pub percent_piece : (left : Bool) (width : ℕ) (rest : List ℕ) → List (List ℕ) → Piece
percent_piece left width rest values = Printed (layout (fill_of left false) width [] (codes "%")) rest values

-- a field by its kind
abbrev pub of_kind : Kind → Specifier → (left : Bool) (width : ℕ) (rest : List ℕ) → List (List ℕ) → Piece
of_kind (Number base) s left width rest values = number_piece base s.flags left width rest values
of_kind Code s left width rest values = code_piece left width rest values
of_kind Characters s left width rest values = text_piece left width s.most rest values
of_kind Percent s left width rest values = percent_piece left width rest values

-- a limit is followed by `s` alone
abbrev pub is_out_of_place : Option ℕ → ℕ → Bool
is_out_of_place most letter = is_some most && not (letter == 115)

-- a letter is looked up, and is refused if no field has it
abbrev pub piece_of_letter :
    Option Kind → List ℕ → Specifier → (left : Bool) (width : ℕ) → List ℕ → List (List ℕ) → Piece
piece_of_letter (Some kind) text s left width rest values = of_kind kind s left width rest values
piece_of_letter None text s left width rest values = Refused (bad_specifier (slice_index_or (characters text) 0 []))

-- a field by the letter at the front of a template
abbrev pub by_letter : List ℕ → Specifier → (left : Bool) (width : ℕ) → List (List ℕ) → Piece
by_letter [] s left width values = Refused (bad_specifier [])
by_letter (b ∷ rest) s left width values =
    if is_out_of_place s.most b then Refused (bad_specifier (codes "."))
    else piece_of_letter (kind_of b) (b ∷ rest) s left width rest values

abbrev pub is_negative : ℤ → Bool
is_negative (pos n) = false
is_negative (negsuc n) = true

-- a field by its specifier; a width that a value gives is first, and a negative one stands for the flag `-`
abbrev pub by_width : Option ℕ → Specifier → List (List ℕ) → Piece
by_width (Some width) s values = by_letter s.rest s (has_flag 45 s.flags) width values
by_width None s values =
    with_number values (λ n later. by_letter s.rest s (has_flag 45 s.flags || is_negative n) (unsigned_abs n) later)

-- the field after a `%`
abbrev pub field : List ℕ → List (List ℕ) → Piece
field text values = let s = specifier text in by_width s.width s values

abbrev pub is_letter : ℕ → Bool
is_letter b = not (b == 37)

abbrev pub letters : List ℕ → List ℕ
letters text = take_while is_letter text

-- the first piece of a template: a field, or the letters up to the next one
abbrev pub piece : List ℕ → List (List ℕ) → Piece
piece [] values = Printed [] [] values
piece (b ∷ text) values =
    if b == 37 then field text values
    else Printed (letters (b ∷ text)) (drop (length (letters (b ∷ text))) (b ∷ text)) values
