-- How the words of a command line are split into options with their values and ordinary words.
use Rattle.std.specs.Prelude.{◌≡◌, ℕ, Bool, true, false, bytes_eq, List, [], ◌∷◌, ◌++◌, codes}
use Rattle.tt_words.specs.Splitting.{is_dashed, mark}
use Rattle.tt_search_words.specs.declared.setting.Setting.{Setting}
use Rattle.tt_search_words.specs.declared.setting.Setting.TheVariants.{Runs, Seed, Switches, Steps}
use Rattle.tt_search_words.specs.declared.setting.Setting.TheVariants.{Limit, Workers, Differ, Record}

-- the name of an option
abbrev pub name_of : Setting → List ℕ
name_of Runs = codes "--runs"
name_of Seed = codes "--seed"
name_of Switches = codes "--switches"
name_of Steps = codes "--steps"
name_of Limit = codes "--limit"
name_of Workers = codes "--workers"
name_of Differ = codes "--differ"
name_of Record = codes "--record"

-- an option has a value: each does but `--differ`
abbrev pub takes_value : Setting → Bool
takes_value Runs = true
takes_value Seed = true
takes_value Switches = true
takes_value Steps = true
takes_value Limit = true
takes_value Workers = true
takes_value Differ = false
takes_value Record = true

-- an option is this one
abbrev pub is_same : Setting → Setting → Bool
is_same setting other = bytes_eq (name_of setting) (name_of other)

-- an option with its value, which is empty if it has none
pub record Choice : Type 0 where
  pub setting : Setting
  pub value : List ℕ

-- words begin with an option and its value, and these words follow
pub data BeginsWith : List (List ℕ) → Choice → (rest : List (List ℕ)) → Type 0 where
  -- an option without a value is one word
  alone : (setting : Setting) {word : List ℕ} {rest : List (List ℕ)} →
      takes_value setting ≡ false →
      word ≡ name_of setting →
      BeginsWith (word ∷ rest) (record { setting = setting; value = [] }) rest
  -- the value is the next word, which is not dashed
  next : (setting : Setting) {name value : List ℕ} {rest : List (List ℕ)} →
      takes_value setting ≡ true →
      name ≡ name_of setting →
      is_dashed value ≡ false →
      BeginsWith (name ∷ value ∷ rest) (record { setting = setting; value = value }) rest
  -- or it follows `=` in the same word
  same_word : (setting : Setting) {word value : List ℕ} {rest : List (List ℕ)} →
      takes_value setting ≡ true →
      word ≡ name_of setting ++ (61 ∷ value) →
      BeginsWith (word ∷ rest) (record { setting = setting; value = value }) rest

-- words have these options and these ordinary words, each in the order in which they stand
pub data Splits : (words : List (List ℕ)) → List Choice → (ordinary : List (List ℕ)) → Type 0 where
  nothing : Splits [] [] []
  -- after the end mark all words are ordinary
  end_mark : {word : List ℕ} {rest : List (List ℕ)} →
      word ≡ mark →
      Splits (word ∷ rest) [] rest
  ordinary : {word : List ℕ} {rest : List (List ℕ)} {options : List Choice} {words : List (List ℕ)} →
      is_dashed word ≡ false →
      Splits rest options words →
      Splits (word ∷ rest) options (word ∷ words)
  option : {all rest : List (List ℕ)} {choice : Choice} {options : List Choice} {words : List (List ℕ)} →
      BeginsWith all choice rest →
      Splits rest options words →
      Splits all (choice ∷ options) words
