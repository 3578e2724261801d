-- Glob patterns (string(n), string match). Patterns and texts are lists of characters.
use Rattle.std.specs.Prelude.{◌≡◌, ◌≢◌, Bool, true, false, ◌&&◌, ◌||◌, IsTrue, List, [], ◌∷◌, ◌++◌, Option, Some}
use Rattle.std.specs.Prelude.{None, codes, bytes_eq}
use Rattle.std.specs.List.{list_any}
use Rattle.std.specs.Ordering.{nat_cmp, is_le}
use Rattle.std.specs.Cmp.Lexicographic.{slice_cmp}
use Rattle.tt_text.specs.Characters.{Character}

-- a character is the other one or comes before it, by their bytes
abbrev pub is_at_most : Character → Character → Bool
is_at_most c d = is_le (slice_cmp nat_cmp c d)

-- a range of characters, by its two ends
pub record Range : Type 0 where
  pub from : Character
  pub to : Character

-- c lies between the ends of a range, whichever of them comes first
abbrev pub is_between : Range → Character → Bool
is_between range c =
    (is_at_most range.from c && is_at_most c range.to) || (is_at_most range.to c && is_at_most c range.from)

-- the ranges that the members of a set list: `a-z` is one, and so is each character by itself
abbrev pub ranges : List Character → List Range
ranges [] = []
ranges (a ∷ []) = record { from = a; to = a } ∷ []
ranges (a ∷ b ∷ []) = record { from = a; to = a } ∷ record { from = b; to = b } ∷ []
ranges (a ∷ b ∷ z ∷ members) =
    elim (bytes_eq b (codes "-")) [
      | true ↦ record { from = a; to = z } ∷ ranges members
      | false ↦ record { from = a; to = a } ∷ ranges (b ∷ z ∷ members)
    ]

-- the members of a set list c
abbrev pub is_listed : List Character → Character → Bool
is_listed members c = list_any (λ range. is_between range c) (ranges members)

-- the members of a set, from the pattern after its bracket: they go up to the next `]`
abbrev pub set_members : List Character → List Character
set_members [] = []
set_members (c ∷ pattern) = elim (bytes_eq c (codes "]")) [ true ↦ [] | false ↦ c ∷ set_members pattern ]

-- the pattern after a set, if the set is closed
abbrev pub after_set : List Character → Option (List Character)
after_set [] = None
after_set (c ∷ pattern) = elim (bytes_eq c (codes "]")) [ true ↦ Some pattern | false ↦ after_set pattern ]

-- a character that means itself in a pattern
pub record IsOrdinary (c : Character) : Type 0 where
  pub no_run : c ≢ codes "*"
  pub no_any : c ≢ codes "?"
  pub no_set : c ≢ codes "["
  pub no_escape : c ≢ codes "\\"

-- a pattern matches a text. A set that is not closed matches nothing
pub data Matches : List Character → List Character → Type 0 where
  -- the empty pattern matches the empty text
  empty : Matches [] []
  -- `*` matches any run of characters
  run : {p : Character} {pattern text rest : List Character} (skipped : List Character) →
      p ≡ codes "*" →
      text ≡ skipped ++ rest →
      Matches pattern rest →
      Matches (p ∷ pattern) text
  -- `?` matches one character
  any : {p c : Character} {pattern text : List Character} →
      p ≡ codes "?" →
      Matches pattern text →
      Matches (p ∷ pattern) (c ∷ text)
  -- `[..]` matches one character that it lists
  set : {p c : Character} {pattern after text : List Character} →
      p ≡ codes "[" →
      after_set pattern ≡ Some after →
      IsTrue (is_listed (set_members pattern) c) →
      Matches after text →
      Matches (p ∷ pattern) (c ∷ text)
  -- a backslash and a character match that character
  escape : {p c : Character} {pattern text : List Character} →
      p ≡ codes "\\" →
      Matches pattern text →
      Matches (p ∷ c ∷ pattern) (c ∷ text)
  -- a last backslash matches itself
  last_backslash : {p : Character} → p ≡ codes "\\" → Matches (p ∷ []) (p ∷ [])
  -- any other character matches itself
  itself : {c : Character} {pattern text : List Character} →
      IsOrdinary c →
      Matches pattern text →
      Matches (c ∷ pattern) (c ∷ text)
