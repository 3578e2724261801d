-- How the words of a command line are split into options, with their values or as flags, and ordinary words.
use Rattle.std.specs.Prelude.{◌≡◌, ◌==◌, ℕ, Bool, true, false, List, [], ◌∷◌, ◌++◌, codes}
use Rattle.tt_words.specs.declared.setting.Setting.{Setting}
use Rattle.tt_words.specs.declared.setting.Setting.TheVariants.{Workers, Steps, Limit, Record, Replay}
use Rattle.tt_words.specs.declared.setting.Setting.TheVariants.{Generate, Waits, Races, Debug}

-- the name of an option
abbrev pub name_of : Setting → List ℕ
name_of Workers = codes "--workers"
name_of Steps = codes "--steps"
name_of Limit = codes "--limit"
name_of Record = codes "--record"
name_of Replay = codes "--replay"
name_of Generate = codes "--generate"
name_of Waits = codes "--waits"
name_of Races = codes "--races"
name_of Debug = codes "--debug"

-- an option has a value: each does but the two flags
abbrev pub takes_value : Setting → Bool
takes_value Workers = true
takes_value Steps = true
takes_value Limit = true
takes_value Record = true
takes_value Replay = true
takes_value Generate = true
takes_value Waits = false
takes_value Races = false
takes_value Debug = true

-- an option with its value, which is empty if it is a flag
pub record Given : Type 0 where
  pub setting : Setting
  pub value : List ℕ

-- the end mark: the words after it are ordinary
abbrev pub mark : List ℕ
mark = codes "--"

-- a word begins with `-` and is longer than `-`
abbrev pub is_dashed : List ℕ → Bool
is_dashed [] = false
is_dashed (byte ∷ []) = false
is_dashed (byte ∷ next ∷ bytes) = byte == 45

-- words begin with an option and its value, or with a flag, and these words follow
pub data BeginsWith : List (List ℕ) → Given → (rest : List (List ℕ)) → Type 0 where
  -- the value is the next word, which is not dashed
  next : (setting : Setting) {name value : List ℕ} {rest : List (List ℕ)} →
      takes_value setting ≡ true →
      name ≡ name_of setting →
      is_dashed value ≡ false →
      BeginsWith (name ∷ value ∷ rest) (record { setting = setting; value = value }) rest
  -- or it follows `=` in the same word
  same_word : (setting : Setting) {word value : List ℕ} {rest : List (List ℕ)} →
      takes_value setting ≡ true →
      word ≡ name_of setting ++ (61 ∷ value) →
      BeginsWith (word ∷ rest) (record { setting = setting; value = value }) rest
  -- a flag is its name alone
  flag : (setting : Setting) {word : List ℕ} {rest : List (List ℕ)} →
      takes_value setting ≡ false →
      word ≡ name_of setting →
      BeginsWith (word ∷ rest) (record { setting = setting; value = [] }) rest

-- words have these options and these ordinary words, each in the order in which they stand
pub data Splits : (words : List (List ℕ)) → List Given → (ordinary : List (List ℕ)) → Type 0 where
  nothing : Splits [] [] []
  end_mark : {word : List ℕ} {rest : List (List ℕ)} →
      word ≡ mark →
      Splits (word ∷ rest) [] rest
  ordinary : {word : List ℕ} {rest : List (List ℕ)} {options : List Given} {words : List (List ℕ)} →
      is_dashed word ≡ false →
      Splits rest options words →
      Splits (word ∷ rest) options (word ∷ words)
  option : {all rest : List (List ℕ)} {given : Given} {options : List Given} {words : List (List ℕ)} →
      BeginsWith all given rest →
      Splits rest options words →
      Splits all (given ∷ options) words
