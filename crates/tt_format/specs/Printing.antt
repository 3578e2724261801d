-- What a field prints, by its letter (format(n)).
use Rattle.std.specs.Prelude.{ℕ, ◌+◌, ◌-◌, ◌^◌, nat_le, Bool, true, false, ◌||◌, ◌==◌, if◌then◌else◌, ℤ, pos, negsuc}
use Rattle.std.specs.Prelude.{unsigned_abs, List, [], ◌++◌, length, replicate, Option, Some, None, codes}
use Rattle.std.specs.Fmt.{decimal, radix_digits}
use Rattle.std.specs.List.{list_any}
use Rattle.tt_text.specs.Characters.{characters}
use Rattle.tt_format.specs.declared.kind.Base.{Base}
use Rattle.tt_format.specs.declared.kind.Base.TheVariants.{Signed, Unsigned, Hexadecimal, Capitals, Octal, Binary}
use Rattle.tt_format.specs.declared.kind.Kind.{Kind}
use Rattle.tt_format.specs.declared.kind.Kind.TheVariants.{Number, Code, Characters, Percent}
use Rattle.tt_format.specs.declared.layout.Fill.{Fill}
use Rattle.tt_format.specs.declared.layout.Fill.TheVariants.{SpacesAfter, Zeros, SpacesBefore}

-- the table of letters
abbrev pub kind_of : ℕ → Option Kind
kind_of b =
    if b == 100 || b == 105 then Some (Number Signed)  -- d and i
    else if b == 117 then Some (Number Unsigned)  -- u
    else if b == 120 then Some (Number Hexadecimal)  -- x
    else if b == 88 then Some (Number Capitals)  -- X
    else if b == 111 then Some (Number Octal)  -- o
    else if b == 98 then Some (Number Binary)  -- b
    else if b == 99 then Some Code  -- c
    else if b == 115 then Some Characters  -- s
    else if b == 37 then Some Percent  -- %
    else None

-- the number from 0 to 2^64 - 1 whose bits are those of a signed one
abbrev pub complement : ℤ → ℕ
complement (pos n) = n
complement (negsuc n) = 2 ^ 64 - 1 - n

-- the digits of a number
abbrev pub numeral : Base → ℤ → List ℕ
numeral Signed n = decimal (unsigned_abs n)
numeral Unsigned n = decimal (complement n)
numeral Hexadecimal n = radix_digits 16 false (complement n)
numeral Capitals n = radix_digits 16 true (complement n)
numeral Octal n = radix_digits 8 false (complement n)
numeral Binary n = radix_digits 2 false (complement n)

abbrev pub has_flag : ℕ → List ℕ → Bool
has_flag flag flags = list_any (λ b. b == flag) flags

-- what stands before the digits of a signed number: `-`, or what the flags `+` and space ask for
abbrev pub signed_sign : List ℕ → ℤ → List ℕ
signed_sign flags (negsuc n) = codes "-"
signed_sign flags (pos n) = if has_flag 43 flags then codes "+" else if has_flag 32 flags then codes " " else []

abbrev pub sign : Base → List ℕ → ℤ → List ℕ
sign Signed flags n = signed_sign flags n
sign Unsigned flags n = []
sign Hexadecimal flags n = []
sign Capitals flags n = []
sign Octal flags n = []
sign Binary flags n = []

-- the code point of a number; U+FFFD if it is none
abbrev pub code_point : ℤ → ℕ
code_point (pos n) = if nat_le n 0x10FFFF then n else 0xFFFD
code_point (negsuc n) = 0xFFFD

-- how many characters a field has too few for its width
abbrev pub missing : ℕ → List ℕ → List ℕ → ℕ
missing width sign body = width - (length sign + length (characters body))

-- a field: its sign and its body, filled up to its width with spaces at an end or with zeros after the sign
abbrev pub layout : Fill → ℕ → List ℕ → List ℕ → List ℕ
layout SpacesAfter width sign body = (sign ++ body) ++ replicate (missing width sign body) 32
layout Zeros width sign body = (sign ++ replicate (missing width sign body) 48) ++ body
layout SpacesBefore width sign body = (replicate (missing width sign body) 32 ++ sign) ++ body

-- how a field is filled: `-` or a negative width goes before `0`, which fills numbers alone
abbrev pub fill_of : (left zeros : Bool) → Fill
fill_of left zeros = if left then SpacesAfter else if zeros then Zeros else SpacesBefore
