-- What a call asks for: its script, its schedule, and what its run begins with.
use Rattle.std.specs.Prelude.{◌≡◌, ◌<◌, ◌⊎◌, ⊤, ℕ, List, [], length, Option, Some, None}
use Rattle.tt_devices.specs.Names.{HasName, Names, Tells}
use Rattle.tt_generate.specs.Workload.{workload_text}
use Rattle.tt_kept.specs.declared.setup.Setup.{Setup}
use Rattle.tt_schedule.specs.ScheduleText.{IsFirstWrong, IsScheduleText}
use Rattle.tt_words.specs.Asked.{Asked, Generate, Plain, Replay, generate, plain, replay}
use Rattle.tt_words.specs.Asked.{Report, NoReport, Waits, Races, Debug}
use Rattle.tt_session.specs.Choosing.{Freely, InTurn, Mode, Replaying}

-- ---- what a run begins with: the script, its name, its arguments, and the most units of a thread

abbrev pub plain_setup : Plain → (script : List ℕ) → Setup
plain_setup named script =
    record { script = script; name = named.script; arguments = named.arguments; limit = named.limit }

abbrev pub replay_setup : Replay → (script : List ℕ) → Setup
replay_setup named script =
    record { script = script; name = named.script; arguments = named.arguments; limit = named.limit }

-- the script is made of the number
abbrev pub generate_setup : Generate → Setup
generate_setup named = record {
  script = workload_text named.number named.size;
  name = named.script;
  arguments = [];
  limit = named.limit;
}

-- ---- how long a schedule may be

-- races are reported of at most so many entries
abbrev pub most_raced : ℕ
most_raced = 10000

-- a schedule of so many entries is too long for what is to be reported
abbrev pub IsTooMuch : Report → (entries : ℕ) → Type 0
IsTooMuch NoReport entries = ⊥
IsTooMuch Waits entries = ⊥
IsTooMuch Races entries = most_raced < entries
IsTooMuch (Debug file) entries = ⊥

-- ---- a run that is asked for

-- no debugging session is asked for
abbrev pub IsNoSession : Report → Type 0
IsNoSession NoReport = ⊤
IsNoSession Waits = ⊤
IsNoSession Races = ⊤
IsNoSession (Debug file) = ⊥

abbrev pub AsksRun : Asked → Type 0
AsksRun (plain named) = ⊤
AsksRun (replay named) = IsNoSession named.report
AsksRun (generate named) = ⊤

-- the script is there
pub record BeginsPlain (named : Plain) (names : Option Names) (setup : Setup) (mode : Mode) : Type 0 where
  pub script : List ℕ
  pub script_is : Tells names named.script (Some script)
  pub begins : setup ≡ plain_setup named script
  pub chosen : mode ≡ Freely named.steps

-- the script and the schedule's text are there
pub record AreThere (named : Replay) (names : Option Names) (script text : List ℕ) : Type 0 where
  pub script_is : Tells names named.script (Some script)
  pub text_is : Tells names named.schedule (Some text)

-- and the text is that of the list that is followed, which isn't too long
pub record BeginsReplay (named : Replay) (names : Option Names) (setup : Setup) (mode : Mode) : Type 0 where
  pub script : List ℕ
  pub text : List ℕ
  pub given : List ℕ
  pub there : AreThere named names script text
  pub is_text : IsScheduleText text given
  pub short : ¬ IsTooMuch named.report (length given)
  pub begins : setup ≡ replay_setup named script
  pub chosen : mode ≡ Replaying given

-- a run that begins so, whose steps are chosen so; no file is read of one that is generated
abbrev pub BeginsAs : Asked → Option Names → Setup → Mode → Type 0
BeginsAs (plain named) names setup mode = BeginsPlain named names setup mode
BeginsAs (replay named) names setup mode = BeginsReplay named names setup mode
BeginsAs (generate named) names setup mode = (setup ≡ generate_setup named) × (mode ≡ InTurn named.steps)

-- ---- what can be wrong with it

-- the file with the commands of a debugging session is missing, which is read after the schedule's text
pub record LacksCommands (named : Replay) (names : Option Names) (name : List ℕ) : Type 0 where
  pub asked : named.report ≡ Debug name
  pub setup : Setup
  pub mode : Mode
  pub begins : BeginsReplay named names setup mode
  pub missing : Tells names name None

-- the file that is missing is the script, or else the schedule, or else that with the commands
abbrev pub IsMissing : Asked → Option Names → (name : List ℕ) → Type 0
IsMissing (plain named) names name = (name ≡ named.script) × Tells names named.script None
IsMissing (replay named) names name =
    ((name ≡ named.script) × Tells names named.script None)
    ⊎ ((name ≡ named.schedule)
    × ((script : List ℕ) × Tells names named.script (Some script))
    × Tells names named.schedule None)
    ⊎ LacksCommands named names name
IsMissing (generate named) names name = ⊥

-- the text under the schedule's name is no schedule's, and this is the place of its first wrong line
pub record IsWrongText (named : Replay) (names : Option Names) (place : ℕ) : Type 0 where
  pub script : List ℕ
  pub text : List ℕ
  pub there : AreThere named names script text
  pub wrong : IsFirstWrong text place
  pub no_text : (threads : List ℕ) → ¬ (IsScheduleText text threads)

abbrev pub HasWrongText : Asked → Option Names → (place : ℕ) → Type 0
HasWrongText (replay named) names place = IsWrongText named names place
HasWrongText asked names place = ⊥

-- the text is that of a list of so many entries, which are too many
pub record IsTooLong (named : Replay) (names : Option Names) (entries : ℕ) : Type 0 where
  pub script : List ℕ
  pub text : List ℕ
  pub given : List ℕ
  pub there : AreThere named names script text
  pub is_text : IsScheduleText text given
  pub counted : entries ≡ length given
  pub too_long : IsTooMuch named.report entries

abbrev pub HasLongText : Asked → Option Names → (entries : ℕ) → Type 0
HasLongText (replay named) names entries = IsTooLong named names entries
HasLongText asked names entries = ⊥

-- a file can fail to be read if the script is there, which is read first; a generated run reads none
abbrev pub MayFail : Asked → Option Names → Type 0
MayFail (plain named) names = HasName names named.script
MayFail (replay named) names = HasName names named.script
MayFail (generate named) names = ⊥

-- ---- the file under which the schedule is recorded, if one is
abbrev pub record_of : Asked → Option (List ℕ)
record_of (plain named) = named.kept
record_of (replay named) = None
record_of (generate named) = named.kept
