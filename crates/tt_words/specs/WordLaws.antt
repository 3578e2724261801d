-- Laws of the reading of command lines.
use Rattle.std.specs.Prelude.{◌≡◌, ◌↔◌, ℕ, false, List, [], ◌∷◌, ◌++◌}
use Rattle.tt_words.specs.Asked.{Asked, WordsAskFor}
use Rattle.tt_words.specs.Splitting.{BeginsWith, Given, is_dashed}

-- words ask for one thing at most
abbrev pub OneReadingLaw : Type 0
OneReadingLaw =
    (words : List (List ℕ)) (one other : Asked) → WordsAskFor words one → WordsAskFor words other → one ≡ other

-- ordinary words, options with their values, and flags, and no end mark
pub data AreWhole : List (List ℕ) → Type 0 where
  none : AreWhole []
  ordinary : {word : List ℕ} {rest : List (List ℕ)} → is_dashed word ≡ false → AreWhole rest → AreWhole (word ∷ rest)
  option : {words rest : List (List ℕ)} {given : Given} → BeginsWith words given rest → AreWhole rest → AreWhole words

-- the words of one option with its value, or of a flag
abbrev pub IsOption : List (List ℕ) → Given → Type 0
IsOption words given = BeginsWith words given []

-- two options or flags that stand side by side ask for the same in either order
abbrev pub OptionsSwapLaw : Type 0
OptionsSwapLaw =
    (before one other after : List (List ℕ)) (first second : Given) (asked : Asked) →
    AreWhole before →
    IsOption one first →
    IsOption other second →
    WordsAskFor (before ++ (one ++ (other ++ after))) asked →
    WordsAskFor (before ++ (other ++ (one ++ after))) asked

-- and so do an option or flag and an ordinary word
abbrev pub WordSwapLaw : Type 0
WordSwapLaw =
    (before one after : List (List ℕ)) (word : List ℕ) (given : Given) (asked : Asked) →
    AreWhole before →
    IsOption one given →
    is_dashed word ≡ false →
    WordsAskFor (before ++ (one ++ (word ∷ after))) asked ↔ WordsAskFor (before ++ (word ∷ (one ++ after))) asked
