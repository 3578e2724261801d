-- What each word does by what came before it, and the parts that words come to so.
use Rattle.std.specs.Prelude.{◌==◌, ℕ, Bool, true, false, bytes_eq, List, [], ◌∷◌, Option, Some, None, if◌then◌else◌}
use Rattle.std.specs.List.{find}
use Rattle.std.specs.Option.{option_map}
use Rattle.tt_words.specs.Splitting.{is_dashed, mark}
use Rattle.tt_search_words.specs.Parts.{Choice, name_of, takes_value}
use Rattle.tt_search_words.specs.declared.places.Place.{Place}
use Rattle.tt_search_words.specs.declared.places.Place.TheVariants.{Open, Value, Ordinary}
use Rattle.tt_search_words.specs.declared.setting.Setting.{Setting}
use Rattle.tt_search_words.specs.declared.setting.Setting.TheVariants.{Runs, Seed, Switches, Steps}
use Rattle.tt_search_words.specs.declared.setting.Setting.TheVariants.{Limit, Workers, Differ, Record}

-- ---- one word

-- the options
abbrev pub settings : List Setting
settings = Runs ∷ Seed ∷ Switches ∷ Steps ∷ Limit ∷ Workers ∷ Differ ∷ Record ∷ []

-- the first of these that has a name
abbrev pub first_named : List Setting → (name : List ℕ) → Option Setting
first_named settings name = find (λ setting. bytes_eq name (name_of setting)) settings

-- the option of a name
abbrev pub setting_named : (name : List ℕ) → Option Setting
setting_named name = first_named settings name

-- what stands before the first `=`, and what stands after it
abbrev pub before_sign : List ℕ → List ℕ
before_sign [] = []
before_sign (byte ∷ bytes) = if byte == 61 then [] else byte ∷ before_sign bytes

abbrev pub after_sign : List ℕ → Option (List ℕ)
after_sign [] = None
after_sign (byte ∷ bytes) = if byte == 61 then Some bytes else after_sign bytes

-- what a word does: it is ordinary, it gives an option its value, it says what the next one may be, or it can't stand
-- there
pub data Step : Type 0 where
  plain : Step
  chooses : Choice → Step
  leads : Place → Step
  fails : Step

-- an option, by the value that follows `=`, if one does
abbrev pub setting_step : Setting → Option (List ℕ) → Step
setting_step setting None =
    if takes_value setting then leads (Value setting) else chooses (record { setting = setting; value = [] })
setting_step setting (Some value) =
    if takes_value setting then chooses (record { setting = setting; value = value }) else fails

abbrev pub named_step : Option Setting → Option (List ℕ) → Step
named_step None value = fails
named_step (Some setting) value = setting_step setting value

abbrev pub dashed_step : (word : List ℕ) → Step
dashed_step word =
    if bytes_eq word mark then leads Ordinary else named_step (setting_named (before_sign word)) (after_sign word)

abbrev pub open_step : (word : List ℕ) → Step
open_step word = if is_dashed word then dashed_step word else plain

abbrev pub value_step : Setting → (word : List ℕ) → Step
value_step setting word =
    if is_dashed word then fails else chooses (record { setting = setting; value = word })

abbrev pub step_at : Place → (word : List ℕ) → Step
step_at Open word = open_step word
step_at (Value setting) word = value_step setting word
step_at Ordinary word = plain

-- ---- all words

-- options and ordinary words
pub record Parts : Type 0 where
  pub options : List Choice
  pub ordinary : List (List ℕ)

abbrev pub no_parts : Parts
no_parts = record { options = []; ordinary = [] }

abbrev pub with_choice : Choice → Parts → Parts
with_choice choice parts = record { options = choice ∷ parts.options; ordinary = parts.ordinary }

abbrev pub with_word : (word : List ℕ) → Parts → Parts
with_word word parts = record { options = parts.options; ordinary = word ∷ parts.ordinary }

-- words may end at a place
abbrev pub may_end : Place → Bool
may_end Open = true
may_end (Value setting) = false
may_end Ordinary = true

-- the parts from a word on, by what it does and by the parts that the words after it have from a place on
abbrev pub parts_after_step : Step → Place → (word : List ℕ) → (Place → Option Parts) → Option Parts
parts_after_step plain place word later = option_map (with_word word) (later place)
parts_after_step (chooses choice) place word later = option_map (with_choice choice) (later Open)
parts_after_step (leads next) place word later = later next
parts_after_step fails place word later = None

-- the parts of words from a place on
abbrev pub parts_from : Place → (words : List (List ℕ)) → Option Parts
parts_from place [] = if may_end place then Some no_parts else None
parts_from place (word ∷ words) = parts_after_step (step_at place word) place word (λ next. parts_from next words)

abbrev pub parts_of : (words : List (List ℕ)) → Option Parts
parts_of words = parts_from Open words
