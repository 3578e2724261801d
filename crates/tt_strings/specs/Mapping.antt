-- A text with parts replaced (string(n), string map).
use Rattle.std.specs.Prelude.{◌≡◌, ◌≢◌, ℕ, List, [], ◌∷◌, ◌++◌}
use Rattle.tt_text.specs.Characters.{Character, characters}

-- a key stands at the front of a text, and the characters `rest` follow; the empty key stands nowhere
pub record IsAtFront (key : List ℕ) (text rest : List Character) : Type 0 where
  pub some : key ≢ []
  pub cut : text ≡ characters key ++ rest

-- a key doesn't stand at the front of a text
abbrev pub IsNotAtFront : List ℕ → List Character → Type 0
IsNotAtFront key text = (rest : List Character) → ¬ IsAtFront key text rest

-- of keys and values, one after the other, the first pair whose key stands at the front of a text has that value
pub data IsFirstPair :
    (pairs : List (List ℕ)) (text : List Character) (value : List ℕ) (rest : List Character) → Type 0 where
  here : {key value : List ℕ} {more : List (List ℕ)} {text rest : List Character} →
      IsAtFront key text rest →
      IsFirstPair (key ∷ value ∷ more) text value rest
  later : {key other value : List ℕ} {more : List (List ℕ)} {text rest : List Character} →
      IsNotAtFront key text →
      IsFirstPair more text value rest →
      IsFirstPair (key ∷ other ∷ more) text value rest

-- no key of the pairs stands at the front of a text; a last key without a value is none
abbrev pub HasNoPair : List (List ℕ) → List Character → Type 0
HasNoPair [] text = Unit {0}
HasNoPair (key ∷ []) text = Unit {0}
HasNoPair (key ∷ value ∷ more) text = IsNotAtFront key text × HasNoPair more text

-- what stands at the front of a text becomes `made`, and the characters `rest` follow
pub data IsStep (pairs : List (List ℕ)) : (text : List Character) (made : List ℕ) (rest : List Character) → Type 0 where
  -- a key becomes its value
  replaced : {text : List Character} {value : List ℕ} {rest : List Character} →
      IsFirstPair pairs text value rest →
      IsStep pairs text value rest
  -- any other character stays
  kept : {c : Character} {rest : List Character} →
      HasNoPair pairs (c ∷ rest) →
      IsStep pairs (c ∷ rest) c rest

-- a text with the keys replaced from its front on; what has been put is not looked at again
pub data IsMapped (pairs : List (List ℕ)) : (text : List Character) (made : List ℕ) → Type 0 where
  ended : IsMapped pairs [] []
  step : {text rest : List Character} {made later : List ℕ} →
      IsStep pairs text made rest →
      IsMapped pairs rest later →
      IsMapped pairs text (made ++ later)
