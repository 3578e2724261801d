-- What a command line of `tclsearch` asks for, by its options and its ordinary words.
use Rattle.std.specs.Prelude.{◌≡◌, ◌≤◌, ℕ, List, [], ◌∷◌, length, Option, Some, None, if◌then◌else◌}
use Rattle.tt_words.specs.Asked.{Plain, first, HasFile, HasNumber, HasScript}
use Rattle.tt_search_words.specs.Parts.{Choice, Splits, is_same}
use Rattle.tt_search_words.specs.declared.asked.Difference.{Difference}
use Rattle.tt_search_words.specs.declared.asked.Difference.TheVariants.{InEnd, InEndOrOutput}
use Rattle.tt_search_words.specs.declared.setting.Setting.{Setting}
use Rattle.tt_search_words.specs.declared.setting.Setting.TheVariants as setting

-- ---- what is asked for

-- a script with its arguments and how one run of it goes, how many runs, of which schedules, and what is looked for
pub record Search : Type 0 where
  pub plain : Plain
  pub runs : ℕ
  pub seed : ℕ
  pub switches : ℕ
  pub difference : Difference

-- ---- values of options

-- the values that an option is given, in order
abbrev pub values_of : Setting → List Choice → List (List ℕ)
values_of setting [] = []
values_of setting (choice ∷ options) =
    if is_same setting choice.setting then choice.value ∷ values_of setting options
    else values_of setting options

-- each option comes at most once
abbrev pub IsOnce : List Choice → Type 0
IsOnce options = (setting : Setting) → length (values_of setting options) ≤ 1

-- what each option has
pub record Values : Type 0 where
  pub runs : Option (List ℕ)
  pub seed : Option (List ℕ)
  pub switches : Option (List ℕ)
  pub steps : Option (List ℕ)
  pub limit : Option (List ℕ)
  pub workers : Option (List ℕ)
  pub differ : Option (List ℕ)
  pub kept : Option (List ℕ)

abbrev pub values_in : List Choice → Values
values_in options = record {
  runs = first (values_of setting.Runs options);
  seed = first (values_of setting.Seed options);
  switches = first (values_of setting.Switches options);
  steps = first (values_of setting.Steps options);
  limit = first (values_of setting.Limit options);
  workers = first (values_of setting.Workers options);
  differ = first (values_of setting.Differ options);
  kept = first (values_of setting.Record options);
}

-- ---- what the parts ask for

-- output counts too if `--differ` is given
abbrev pub HasDifference : Option (List ℕ) → Difference → Type 0
HasDifference None difference = difference ≡ InEnd
HasDifference (Some value) difference = difference ≡ InEndOrOutput

-- the script of a search and how one run of it goes
pub record IsPlain (values : Values) (ordinary : List (List ℕ)) (plain : Plain) : Type 0 where
  pub script : HasScript ordinary plain.script plain.arguments
  pub workers : HasNumber 1 64 4 values.workers plain.workers
  pub steps : HasNumber 1 16777216 100000 values.steps plain.steps
  pub limit : HasNumber 1 4611686018427387904 4611686018427387904 values.limit plain.limit
  pub kept : HasFile values.kept plain.kept

-- a search
pub record IsSearch (values : Values) (ordinary : List (List ℕ)) (search : Search) : Type 0 where
  pub plain : IsPlain values ordinary search.plain
  pub runs : HasNumber 1 1000000 1000 values.runs search.runs
  pub seed : HasNumber 0 18446744073709551615 0 values.seed search.seed
  pub switches : HasNumber 0 1000 3 values.switches search.switches
  pub difference : HasDifference values.differ search.difference

-- what a command line asks for: it splits, each option comes at most once, and they ask for it
pub record WordsAskFor (words : List (List ℕ)) (search : Search) : Type 0 where
  pub options : List Choice
  pub ordinary : List (List ℕ)
  pub splits : Splits words options ordinary
  pub once : IsOnce options
  pub asks : IsSearch (values_in options) ordinary search

-- what is answered: what the words ask for, or that they ask for nothing
abbrev pub IsReading : (words : List (List ℕ)) → Option Search → Type 0
IsReading words (Some search) = WordsAskFor words search
IsReading words None = (search : Search) → ¬ WordsAskFor words search
