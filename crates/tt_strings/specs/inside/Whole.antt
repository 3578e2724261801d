-- Where a needle's bytes stand in a text as whole characters.
use Rattle.std.specs.Prelude.{◌≡◌, ℕ, ◌<◌, List, ◌++◌, length, Option, MatchOption}
use Rattle.tt_text.specs.Characters.{Character, characters}
use Rattle.tt_strings.specs.Places.{bytes_of}

-- the needle's characters are characters of the text, with so many bytes before them
pub record IsWholeAt (needle text : List ℕ) (start : ℕ) : Type 0 where
  pub before : List Character
  pub after : List Character
  pub cut : characters text ≡ (before ++ characters needle) ++ after
  pub start_is : length (bytes_of before) ≡ start

-- the first such place
abbrev pub IsFirstWhole : List ℕ → List ℕ → Option ℕ → Type 0
IsFirstWhole needle text answer =
    MatchOption answer
    ((k : ℕ) → ¬ IsWholeAt needle text k)
    (λ start. IsWholeAt needle text start × ((k : ℕ) → k < start → ¬ IsWholeAt needle text k))

-- the last such place
abbrev pub IsLastWhole : List ℕ → List ℕ → Option ℕ → Type 0
IsLastWhole needle text answer =
    MatchOption answer
    ((k : ℕ) → ¬ IsWholeAt needle text k)
    (λ start. IsWholeAt needle text start × ((k : ℕ) → start < k → ¬ IsWholeAt needle text k))
