-- What a command line asks for, by its options and its ordinary words.
use Rattle.std.specs.Prelude.{◌≡◌, ◌≢◌, ◌≤◌, ⊤, ℕ, List, [], ◌∷◌, length, IsTrue, bytes_eq, Option, Some, None}
use Rattle.std.specs.Prelude.{Bool, true, false, is_some, if◌then◌else◌}
use Rattle.std.specs.Char.{is_ascii_digit}
use Rattle.std.specs.List.{list_all}
use Rattle.std.specs.Str.Parse.{digits_value}
use Rattle.tt_words.specs.Splitting.{Given, Splits, name_of}
use Rattle.tt_words.specs.declared.setting.Setting.{Setting}
use Rattle.tt_words.specs.declared.setting.Setting.TheVariants as setting

-- ---- what is asked for

-- a script with its arguments, on workers that choose the schedule, kept in a file or not
pub record Plain : Type 0 where
  pub script : List ℕ
  pub arguments : List (List ℕ)
  pub workers : ℕ
  pub steps : ℕ
  pub limit : ℕ
  pub kept : Option (List ℕ)

-- what a replay reports of itself: nothing more, who waits for whom, which steps race, or what commands in a file ask
pub data Report : Type 0 where
  NoReport : Report
  Waits : Report
  Races : Report
  Debug : (file : List ℕ) → Report

-- a script with its arguments, after the schedule in a file
pub record Replay : Type 0 where
  pub schedule : List ℕ
  pub script : List ℕ
  pub arguments : List (List ℕ)
  pub limit : ℕ
  pub report : Report

-- a script that is made of a number, of as many jobs as the word in its place says, its schedule kept in a file or not
pub record Generate : Type 0 where
  pub script : List ℕ
  pub number : ℕ
  pub size : ℕ
  pub steps : ℕ
  pub limit : ℕ
  pub kept : Option (List ℕ)

pub data Asked : Type 0 where
  plain : Plain → Asked
  replay : Replay → Asked
  generate : Generate → Asked

-- ---- values of options

-- the values that an option is given, in order
abbrev pub values_of : Setting → List Given → List (List ℕ)
values_of setting [] = []
values_of setting (given ∷ options) =
    if bytes_eq (name_of setting) (name_of given.setting) then given.value ∷ values_of setting options
    else values_of setting options

-- an option has the first of its values, or it isn't given
abbrev pub first : List (List ℕ) → Option (List ℕ)
first [] = None
first (value ∷ values) = Some value

-- what each option has, and whether each flag is given
pub record Values : Type 0 where
  pub workers : Option (List ℕ)
  pub steps : Option (List ℕ)
  pub limit : Option (List ℕ)
  pub kept : Option (List ℕ)
  pub replay : Option (List ℕ)
  pub generate : Option (List ℕ)
  pub waits : Bool
  pub races : Bool
  pub debug : Option (List ℕ)

abbrev pub values_in : List Given → Values
values_in options = record {
  workers = first (values_of setting.Workers options);
  steps = first (values_of setting.Steps options);
  limit = first (values_of setting.Limit options);
  kept = first (values_of setting.Record options);
  replay = first (values_of setting.Replay options);
  generate = first (values_of setting.Generate options);
  waits = is_some (first (values_of setting.Waits options));
  races = is_some (first (values_of setting.Races options));
  debug = first (values_of setting.Debug options);
}

-- ---- numbers and names

-- a text of 1 to 20 digits writes this number
pub record Writes (text : List ℕ) (number : ℕ) : Type 0 where
  pub some : 1 ≤ length text
  pub few : length text ≤ 20
  pub digits : IsTrue (list_all is_ascii_digit text)
  pub value : number ≡ digits_value 10 text

-- a text writes a number from the least to the most
pub record WritesWithin (least most : ℕ) (text : List ℕ) (number : ℕ) : Type 0 where
  pub writes : Writes text number
  pub at_least : least ≤ number
  pub at_most : number ≤ most

-- the number that an option has: the one that its value writes, or the default if it isn't given
abbrev pub HasNumber : (least most default : ℕ) → Option (List ℕ) → (number : ℕ) → Type 0
HasNumber least most default None number = number ≡ default
HasNumber least most default (Some text) number = WritesWithin least most text number

-- a file's name, which isn't empty, or no file
abbrev pub HasFile : (value file : Option (List ℕ)) → Type 0
HasFile None None = ⊤
HasFile None (Some name) = ⊥
HasFile (Some value) None = ⊥
HasFile (Some value) (Some name) = (name ≡ value) × (name ≢ [])

-- `--workers`, `--steps` and `--limit`
abbrev pub HasWorkers : Option (List ℕ) → ℕ → Type 0
HasWorkers = HasNumber 1 64 4

abbrev pub HasSteps : Option (List ℕ) → ℕ → Type 0
HasSteps = HasNumber 1 16777216 16777216

abbrev pub HasLimit : Option (List ℕ) → ℕ → Type 0
HasLimit = HasNumber 1 4611686018427387904 4611686018427387904

-- what a replay reports, by the flags and the value of `--debug`, of which one at most is given
abbrev pub HasReport : (waits races : Bool) → (debug : Option (List ℕ)) → Report → Type 0
HasReport false false None report = report ≡ NoReport
HasReport true false None report = report ≡ Waits
HasReport false true None report = report ≡ Races
HasReport false false (Some file) report = (report ≡ Debug file) × (file ≢ [])
HasReport _ _ _ _ = ⊥

-- ---- the three modes

-- the first ordinary word is the script, and the rest are its arguments
pub record HasScript (ordinary : List (List ℕ)) (script : List ℕ) (arguments : List (List ℕ)) : Type 0 where
  pub words : ordinary ≡ script ∷ arguments
  pub named : script ≢ []

pub record IsPlain (values : Values) (ordinary : List (List ℕ)) (plain : Plain) : Type 0 where
  pub script : HasScript ordinary plain.script plain.arguments
  pub workers : HasWorkers values.workers plain.workers
  pub steps : HasSteps values.steps plain.steps
  pub limit : HasLimit values.limit plain.limit
  pub kept : HasFile values.kept plain.kept
  pub no_replay : values.replay ≡ None
  pub no_generate : values.generate ≡ None
  pub no_waits : values.waits ≡ false
  pub no_races : values.races ≡ false
  pub no_debug : values.debug ≡ None

-- `--replay` excludes each other option but `--limit` and those of the report, which need it
pub record IsReplay (values : Values) (ordinary : List (List ℕ)) (replay : Replay) : Type 0 where
  pub script : HasScript ordinary replay.script replay.arguments
  pub limit : HasLimit values.limit replay.limit
  pub schedule : HasFile values.replay (Some replay.schedule)
  pub report : HasReport values.waits values.races values.debug replay.report
  pub no_workers : values.workers ≡ None
  pub no_steps : values.steps ≡ None
  pub no_kept : values.kept ≡ None
  pub no_generate : values.generate ≡ None

-- `--generate` excludes `--workers`, and the one ordinary word is the count of jobs
pub record IsGenerate (values : Values) (ordinary : List (List ℕ)) (generate : Generate) : Type 0 where
  pub words : ordinary ≡ generate.script ∷ []
  pub size : WritesWithin 0 2000 generate.script generate.size
  pub value : List ℕ
  pub given : values.generate ≡ Some value
  pub number : WritesWithin 0 18446744073709551615 value generate.number
  pub steps : HasSteps values.steps generate.steps
  pub limit : HasLimit values.limit generate.limit
  pub kept : HasFile values.kept generate.kept
  pub no_workers : values.workers ≡ None
  pub no_replay : values.replay ≡ None
  pub no_waits : values.waits ≡ false
  pub no_races : values.races ≡ false
  pub no_debug : values.debug ≡ None

-- what options and ordinary words ask for
abbrev pub PartsAskFor : Values → (ordinary : List (List ℕ)) → Asked → Type 0
PartsAskFor values ordinary (plain asked) = IsPlain values ordinary asked
PartsAskFor values ordinary (replay asked) = IsReplay values ordinary asked
PartsAskFor values ordinary (generate asked) = IsGenerate values ordinary asked

-- what a command line asks for: it splits, each option comes at most once, and they ask for it
pub record WordsAskFor (words : List (List ℕ)) (asked : Asked) : Type 0 where
  pub options : List Given
  pub ordinary : List (List ℕ)
  pub splits : Splits words options ordinary
  pub once : (setting : Setting) → length (values_of setting options) ≤ 1
  pub asks : PartsAskFor (values_in options) ordinary asked

-- what is answered: what the words ask for, or that they ask for nothing
abbrev pub IsReading : (words : List (List ℕ)) → Option Asked → Type 0
IsReading words (Some asked) = WordsAskFor words asked
IsReading words None = (asked : Asked) → ¬ WordsAskFor words asked
