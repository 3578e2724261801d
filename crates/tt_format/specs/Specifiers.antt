-- Field specifiers (format(n)): what stands between a `%` of a template and the letter of its field. Each part is
-- the longest one that may stand there.
use Rattle.std.specs.Prelude.{ℕ, Bool, ◌||◌, ◌==◌, if◌then◌else◌, List, [], ◌∷◌, length, take, drop, take_while}
use Rattle.std.specs.Prelude.{Option, Some, None}
use Rattle.std.specs.Char.{is_digit}
use Rattle.tt_number.specs.Numerals.{digit_sum}

-- `-`, `0`, `+` and space say how a field is filled and signed
abbrev pub is_flag : ℕ → Bool
is_flag b = b == 45 || b == 48 || b == 43 || b == 32

abbrev pub flags : List ℕ → List ℕ
flags text = take_while is_flag text

abbrev pub after_flags : List ℕ → List ℕ
after_flags text = drop (length (flags text)) text

abbrev pub decimal_digits : List ℕ → List ℕ
decimal_digits text = take_while (λ b. is_digit b 10) text

abbrev pub after_digits : List ℕ → List ℕ
after_digits text = drop (length (decimal_digits text)) text

-- the least width of a field: digits give it, or none if it is a value's, for which `*` stands
abbrev pub width : List ℕ → Option ℕ
width [] = Some 0
width (b ∷ text) = if b == 42 then None else Some (digit_sum 10 (decimal_digits (b ∷ text)))

abbrev pub after_width : List ℕ → List ℕ
after_width [] = []
after_width (b ∷ text) = if b == 42 then text else after_digits (b ∷ text)

-- how many characters of a value are printed at most, if `.` and digits give it
abbrev pub most : List ℕ → Option ℕ
most [] = None
most (b ∷ text) = if b == 46 then Some (digit_sum 10 (decimal_digits text)) else None

abbrev pub after_most : List ℕ → List ℕ
after_most [] = []
after_most (b ∷ text) = if b == 46 then after_digits text else b ∷ text

-- `l` and `ll` say nothing
abbrev pub is_size : ℕ → Bool
is_size b = b == 108

abbrev pub after_size : List ℕ → List ℕ
after_size text = drop (length (take_while is_size (take 2 text))) text

-- a field specifier, and the template from its letter on
pub record Specifier : Type 0 where
  pub flags : List ℕ
  pub width : Option ℕ
  pub most : Option ℕ
  pub rest : List ℕ

-- the specifier after a `%`
abbrev pub specifier : List ℕ → Specifier
specifier text =
    let sized = after_flags text in
    let limited = after_width sized in
    record { flags = flags text; width = width sized; most = most limited; rest = after_size (after_most limited) }
