-- How a number is found at the front of a text.
use Rattle.std.specs.Prelude.{◌≡◌, ℕ, ◌≤◌, true, List, length, take, drop}
use Rattle.std.specs.Str.{all_ascii_digits}
use Rattle.tt_ids.specs.Digits.{BeginsWithNoDigit}

-- the text begins with this many decimal digits and no more
pub record IsDigitRun (text : List ℕ) (count : ℕ) : Type 0 where
  pub within : count ≤ length text
  pub digits : all_ascii_digits (take count text) ≡ true
  pub stops : BeginsWithNoDigit (drop count text)
