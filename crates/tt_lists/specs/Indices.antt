-- The indices of list commands (lindex(n)): a grammar, and the function that follows it.
use Rattle.std.specs.Prelude.{◌≡◌, ℕ, ◌^◌, nat_lt, Bool, true, false, ◌&&◌, ◌||◌, if◌then◌else◌, ◌==◌, ◌↔◌, IsTrue, ℤ}
use Rattle.std.specs.Prelude.{pos, negsuc, neg_ℤ, ◌+ℤ◌, FitsSigned, List, [], ◌∷◌, ◌++◌, length, drop, take_while}
use Rattle.std.specs.Prelude.{Option, Some, None}
use Rattle.std.specs.Char.{is_digit}
use Rattle.std.specs.Int.{w64}
use Rattle.std.specs.List.{list_all, prefix_len}
use Rattle.std.specs.Str.Parse.{digits_value}
use Rattle.tt_lists.specs.declared.place.Index.{Index}
use Rattle.tt_lists.specs.declared.place.Index.TheVariants.{At, FromEnd}

-- a decimal digit
abbrev pub is_decimal : ℕ → Bool
is_decimal b = is_digit b 10

-- a number of an index: one decimal digit or more, which write a number below 2 ^ 64
abbrev pub is_number : List ℕ → Bool
is_number digits = nat_lt 0 (length digits) && list_all is_decimal digits && nat_lt (digits_value 10 digits) (2 ^ 64)

-- ---- the grammar

-- nothing, `+` and a number, or `-` and a number: what is added to the place before it
pub data IsOffset : List ℕ → ℤ → Type 0 where
  none : IsOffset [] (pos 0)
  plus : {digits : List ℕ} →
      IsTrue (is_number digits) →
      IsOffset (43 ∷ digits) (pos (digits_value 10 digits))
  minus : {digits : List ℕ} →
      IsTrue (is_number digits) →
      IsOffset (45 ∷ digits) (neg_ℤ (pos (digits_value 10 digits)))

-- a text is this index: each number in it is below 2 ^ 64, and its value lies in signed 64 bits
pub data IsIndex : List ℕ → Index → Type 0 where
  -- `M`, `M+N` and `M-N`
  from_first : {text : List ℕ} {place : ℤ} (digits offset : List ℕ) (number : ℤ) →
      text ≡ digits ++ offset →
      IsTrue (is_number digits) →
      IsOffset offset number →
      place ≡ pos (digits_value 10 digits) +ℤ number →
      FitsSigned w64 place →
      IsIndex text (At place)
  -- `+N` and `-N`
  signed : {b : ℕ} {digits : List ℕ} {number : ℤ} →
      IsOffset (b ∷ digits) number →
      FitsSigned w64 number →
      IsIndex (b ∷ digits) (At number)
  -- `end`, `end+N` and `end-N`
  from_end : {offset : List ℕ} {number : ℤ} →
      IsOffset offset number →
      FitsSigned w64 number →
      IsIndex (101 ∷ 110 ∷ 100 ∷ offset) (FromEnd number)

-- ---- the function

abbrev pub number_of : List ℕ → Option ℕ
number_of digits = if is_number digits then Some (digits_value 10 digits) else None

-- an optional number with its sign
abbrev pub signed_with : Bool → Option ℕ → Option ℤ
signed_with negative None = None
signed_with negative (Some number) = Some (if negative then neg_ℤ (pos number) else pos number)

abbrev pub offset_of : List ℕ → Option ℤ
offset_of [] = Some (pos 0)
offset_of (b ∷ digits) =
    if b == 43 then signed_with false (number_of digits) else
    if b == 45 then signed_with true (number_of digits) else None

-- a number in signed 64 bits
abbrev pub fits : ℤ → Bool
fits (pos n) = nat_lt n (2 ^ 63)
fits (negsuc n) = nat_lt n (2 ^ 63)

abbrev pub place_of : (ℤ → Index) → Option ℤ → Option Index
place_of index None = None
place_of index (Some number) = if fits number then Some (index number) else None

abbrev pub sum_of : Option ℕ → Option ℤ → Option ℤ
sum_of None offset = None
sum_of (Some number) None = None
sum_of (Some number) (Some offset) = Some (pos number +ℤ offset)

-- the digits at the front, and what follows them
abbrev pub from_first_of : List ℕ → Option Index
from_first_of text =
    place_of At (sum_of (number_of (take_while is_decimal text)) (offset_of (drop (prefix_len is_decimal text) text)))

abbrev pub is_end_first : List ℕ → Bool
is_end_first [] = false
is_end_first (e ∷ []) = false
is_end_first (e ∷ n ∷ []) = false
is_end_first (e ∷ n ∷ d ∷ text) = e == 101 && n == 110 && d == 100

abbrev pub is_sign_first : List ℕ → Bool
is_sign_first [] = false
is_sign_first (b ∷ text) = b == 43 || b == 45

unfoldable pub index_of : List ℕ → Option Index
index_of text =
    if is_end_first text then place_of FromEnd (offset_of (drop 3 text)) else
    if is_sign_first text then place_of At (offset_of text) else from_first_of text

-- the function answers what the grammar says, and nothing else
abbrev pub IndexLaw : Type 0
IndexLaw = (text : List ℕ) (index : Index) → (index_of text ≡ Some index) ↔ IsIndex text index
