-- Laws on dictionaries, in the words of dict(n).
use Rattle.std.specs.Prelude.{◌≡◌, ℕ, bytes_eq, List, Some, None, Ok, if◌then◌else◌}
use Rattle.std.specs.List.{IsDistinct}
use Rattle.std.specs.Map.{keys_of}
use Rattle.tt_pairs.specs.Pairs.{Pairs, joined_pairs, text_of, value_of, with_pair, without_key}
use Rattle.tt_pairs.specs.Reading.{reading_of}

-- no key stands twice
abbrev pub KeysDiffer : Pairs → Type 0
KeysDiffer pairs = IsDistinct bytes_eq (keys_of pairs)

-- so it is of what a text is read as, and so it stays
pub record KeysLaw : Type 0 where
  pub read : (text : List ℕ) (pairs : Pairs) → reading_of text ≡ Ok pairs → KeysDiffer pairs
  pub put : (pairs : Pairs) (key value : List ℕ) → KeysDiffer pairs → KeysDiffer (with_pair pairs key value)
  pub removed : (pairs : Pairs) (key : List ℕ) → KeysDiffer pairs → KeysDiffer (without_key pairs key)
  pub merged : (pairs more : Pairs) → KeysDiffer pairs → KeysDiffer (joined_pairs pairs more)

-- a canonical text is read as the pairs that it was made of
abbrev pub ReadsBackLaw : Type 0
ReadsBackLaw = (pairs : Pairs) → KeysDiffer pairs → reading_of (text_of pairs) ≡ Ok pairs

-- a key has the value that it was given, or none once it was taken out, and another key the value that it had
pub record OtherValuesLaw : Type 0 where
  pub put : (pairs : Pairs) (key value other : List ℕ) →
      value_of (with_pair pairs key value) other ≡ (if bytes_eq other key then Some value else value_of pairs other)
  pub removed : (pairs : Pairs) (key other : List ℕ) →
      KeysDiffer pairs →
      value_of (without_key pairs key) other ≡ (if bytes_eq other key then None else value_of pairs other)
