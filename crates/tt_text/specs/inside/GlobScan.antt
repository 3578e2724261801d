-- What the scan of a glob pattern knows at each step.
use Rattle.std.specs.Prelude.{◌≡◌, ◌≢◌, ℕ, List, [], ◌∷◌, ◌++◌, ◌<◌, ◌≤◌, length, codes}
use Rattle.tt_text.specs.Characters.{Character, characters}
use Rattle.tt_text.specs.Glob.{Matches}
use Rattle.tt_text.specs.declared.patterns.Segment.{Segment}
use Rattle.tt_text.specs.declared.patterns.Segment.TheVariants.{Whole, Fails, Run}

-- the pattern matches some end of the text
pub record MatchesEnd (pattern text : List Character) : Type 0 where
  pub skipped : List Character
  pub rest : List Character
  pub cut : text ≡ skipped ++ rest
  pub matches : Matches pattern rest

-- the text has a first character, and the pattern matches the text after it
pub record MatchesAfterFirst (pattern text : List Character) : Type 0 where
  pub first : Character
  pub rest : List Character
  pub cut : text ≡ first ∷ rest
  pub matches : Matches pattern rest

-- the pattern does not begin with `*`
abbrev pub BeginsWithNoRun : List Character → Type 0
BeginsWithNoRun [] = Unit {0}
BeginsWithNoRun (c ∷ pattern) = c ≢ codes "*"

-- the first piece of a pattern takes the character c, and is followed by the pattern `after`
pub record TakesFirst (pattern after : List Character) (c : Character) : Type 0 where
  pub takes : (text : List Character) → Matches after text → Matches pattern (c ∷ text)
  pub only : (text : List Character) → Matches pattern text → MatchesAfterFirst after text

-- the text begins with c, and the pattern matches the text after it
pub record MatchesAfter (c : Character) (pattern text : List Character) : Type 0 where
  pub rest : List Character
  pub cut : text ≡ c ∷ rest
  pub matches : Matches pattern rest

-- the first piece of a pattern means the character c, and is followed by the pattern `after`
pub record Means (pattern after : List Character) (c : Character) : Type 0 where
  pub takes : (text : List Character) → Matches after text → Matches pattern (c ∷ text)
  pub only : (text : List Character) → Matches pattern text → MatchesAfter c after text

-- the pattern matches no text that begins with c
abbrev pub RefusesFirst : List Character → Character → Type 0
RefusesFirst pattern c = (text : List Character) → ¬ Matches pattern (c ∷ text)

-- a pattern against a text, up to the pattern's first `*`
abbrev pub IsSegmentOf : Segment → List Character → List Character → Type 0
IsSegmentOf Whole pattern text = Matches pattern text
IsSegmentOf Fails pattern text = ¬ Matches pattern text
IsSegmentOf (Run after rest) pattern text =
    (MatchesEnd (characters after.now) (characters rest.now) → Matches pattern text)
    × (MatchesEnd pattern text → MatchesEnd (characters after.now) (characters rest.now))

-- the pattern after its first `*` is shorter, and the remaining text no longer
abbrev pub IsShorterThan : Segment → List ℕ → List ℕ → Type 0
IsShorterThan Whole pattern text = Unit {0}
IsShorterThan Fails pattern text = Unit {0}
IsShorterThan (Run after rest) pattern text = (length after.now < length pattern) × (length rest.now ≤ length text)
