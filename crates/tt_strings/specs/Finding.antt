-- Where characters stand in a text (string(n), string first, string last).
use Rattle.std.specs.Prelude.{◌≡◌, ℕ, ◌<◌, List, [], ◌∷◌, ◌++◌, length, Option, None, MatchOption}
use Rattle.tt_text.specs.Characters.{Character}

-- a needle's characters stand at a place of a text: so many characters are before them
pub record StandsAt (needle text : List Character) (place : ℕ) : Type 0 where
  pub before : List Character
  pub after : List Character
  pub cut : text ≡ (before ++ needle) ++ after
  pub place_is : length before ≡ place

-- what string first answers: the first place, if there is one; an empty needle stands nowhere
abbrev pub IsFirstPlace : List Character → List Character → Option ℕ → Type 0
IsFirstPlace [] text answer = answer ≡ None
IsFirstPlace (c ∷ needle) text answer =
    MatchOption answer
    ((p : ℕ) → ¬ StandsAt (c ∷ needle) text p)
    (λ place. StandsAt (c ∷ needle) text place × ((p : ℕ) → p < place → ¬ StandsAt (c ∷ needle) text p))

-- what string last answers: the last place, if there is one
abbrev pub IsLastPlace : List Character → List Character → Option ℕ → Type 0
IsLastPlace [] text answer = answer ≡ None
IsLastPlace (c ∷ needle) text answer =
    MatchOption answer
    ((p : ℕ) → ¬ StandsAt (c ∷ needle) text p)
    (λ place. StandsAt (c ∷ needle) text place × ((p : ℕ) → place < p → ¬ StandsAt (c ∷ needle) text p))
