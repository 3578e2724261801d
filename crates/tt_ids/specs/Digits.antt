-- Decimal digits, as ids and schedules write numbers (thread(n)).
use Rattle.std.specs.Prelude.{◌≡◌, ℕ, ◌+◌, ◌-◌, ◌*◌, false, List, [], ◌∷◌}
use Rattle.std.specs.Char.{is_ascii_digit}

-- no decimal digit is at the front
abbrev pub BeginsWithNoDigit : List ℕ → Type 0
BeginsWithNoDigit [] = Unit {0}
BeginsWithNoDigit (byte ∷ text) = is_ascii_digit byte ≡ false

-- the number that digits after a number write
abbrev pub number_after : ℕ → List ℕ → ℕ
number_after number [] = number
number_after number (digit ∷ digits) = number_after (10 * number + (digit - 48)) digits
