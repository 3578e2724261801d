-- What the program answers and leaves, by its words, its files and its streams.
use Rattle.std.specs.Prelude.{◌≡◌, ◌≢◌, ◌⊎◌, ⊤, ℕ, List, [], Some}
use Rattle.tt_core.specs.Stage.{Began}
use Rattle.tt_devices.specs.Faults.{Rises}
use Rattle.tt_devices.specs.Names.{Tells}
use Rattle.tt_devices.specs.declared.files.Files.{Ghosts as OfFiles}
use Rattle.tt_devices.specs.declared.sink.Sink.{Ghosts as OfSink}
use Rattle.tt_devices.specs.declared.source.Source.{Ghosts as OfSource}
use Rattle.tt_kept.specs.declared.setup.Setup.{Setup}
use Rattle.tt_words.specs.Asked.{Asked, Debug, Replay, WordsAskFor, replay}
use Rattle.tt_session.specs.Asking.{AsksRun, BeginsAs, BeginsReplay, HasLongText, HasWrongText, IsMissing}
use Rattle.tt_session.specs.Asking.{MayFail, record_of}
use Rattle.tt_session.specs.Choosing.{Mode, Replaying}
use Rattle.tt_session.specs.Debugging.{AreShown, lines_of}
use Rattle.tt_session.specs.Lines.{PutsLine}
use Rattle.tt_session.specs.Recording.{IsUnwritten, Records}
use Rattle.tt_session.specs.Reporting.{IsReport, report_of}
use Rattle.tt_session.specs.Running.{RunLeaves}
use Rattle.tt_session.specs.Status.{ended_status, refused_status}
use Rattle.tt_session.specs.declared.ended.Ended.{Ended}
use Rattle.tt_session.specs.declared.ended.Finish.{Finish}
use Rattle.tt_session.specs.declared.status.End.{End}
use Rattle.tt_session.specs.declared.status.Refusal.{Refusal}
use Rattle.tt_session.specs.declared.status.Refusal.TheVariants as refusal
use Rattle.tt_session.specs.declared.status.Status.{Status}
use Rattle.tt_session.specs.declared.status.Status.TheVariants.{Usage, NoMemory}

-- ---- no machine was started

-- the words ask for nothing, or memory to read them was refused
abbrev pub IsWordRefusal : Refusal → (words : List (List ℕ)) → Type 0
IsWordRefusal refusal.Usage words = (asked : Asked) → ¬ WordsAskFor words asked
IsWordRefusal refusal.NoMemory words = ⊤
IsWordRefusal why words = ⊥

module _ {F : Type 0} (files : OfFiles F) where
  -- a named file is missing, the schedule's text is none or too long, a read failed, or memory was refused
  abbrev pub IsRefusal : Asked → Refusal → (old new : F) → Type 0
  IsRefusal asked (refusal.NoFile name) old new = IsMissing asked (files.map old) name
  IsRefusal asked (refusal.BadText offset) old new = HasWrongText asked (files.map old) offset
  IsRefusal asked (refusal.TooLong entries) old new = HasLongText asked (files.map old) entries
  IsRefusal asked refusal.ReadFault old new =
      MayFail asked (files.map old) × Rises (files.read_fault_count old) (files.read_fault_count new)
  IsRefusal asked refusal.NoMemory old new = ⊤
  IsRefusal asked refusal.Usage old new = ⊥

module _ {F S K E : Type 0} (files : OfFiles F) (source : OfSource S) (sink : OfSink K) (errors : OfSink E) where
  -- no step was taken, no stream was touched but for the status line, no file was written, a failed read is reported
  pub record IsUntouched (why : Refusal) (old new : F) (began : Began S K E) (ended : Ended S K E) : Type 0 where
    pub status : ended.status ≡ refused_status why
    pub no_step : ended.schedule.threads ≡ []
    pub input : ended.input ≡ began.input
    pub output : ended.output ≡ began.output
    pub line : PutsLine errors (errors.fault_count began.errors) ended.status [] began.errors ended.errors
    pub unwritten : IsUnwritten files old new
    pub reads_steady : why ≢ refusal.ReadFault → files.read_fault_count new ≡ files.read_fault_count old

  -- ---- a machine was started, or memory for it was refused

  -- A run that was asked for. Its schedule is recorded if that is asked for, and then the status line is put, with the
  -- report that is asked for.
  pub record HasRun (asked : Asked) (old new : F) (began : Began S K E) (ended : Ended S K E) : Type 0 where
    pub setup : Setup
    pub mode : Mode
    pub finish : Finish S K E
    pub asks : AsksRun asked
    pub begins : BeginsAs asked (files.map old) setup mode
    pub leaves : RunLeaves source sink errors setup mode began finish
    pub records : Records files (record_of asked) finish.end finish.schedule.threads old new ended.status
    pub more : List ℕ
    pub report :
        IsReport (report_of asked) ended.status setup (source.held began.input) finish.schedule.threads more
    pub line : PutsLine errors (errors.fault_count began.errors) ended.status more finish.errors ended.errors
    pub schedule : ended.schedule.threads ≡ finish.schedule.threads
    pub input : ended.input ≡ finish.input
    pub output : ended.output ≡ finish.output
    pub reads_steady : files.read_fault_count new ≡ files.read_fault_count old

  -- ---- a debugging session was held, or memory for it was refused

  -- What the lines of the file show is put on output; no step is taken, and input is untouched.
  pub record HasDebugged (named : Replay) (old new : F) (began : Began S K E) (ended : Ended S K E) : Type 0 where
    pub file : List ℕ
    pub asked : named.report ≡ Debug file
    pub setup : Setup
    pub given : List ℕ
    pub begins : BeginsReplay named (files.map old) setup (Replaying given)
    pub commands : List ℕ
    pub commands_are : Tells (files.map old) file (Some commands)
    pub end : End
    pub shown : AreShown sink setup given (lines_of commands) end began.output ended.output
    pub status : ended.status ≡ ended_status end
    pub no_step : ended.schedule.threads ≡ []
    pub input : ended.input ≡ began.input
    pub line : PutsLine errors (errors.fault_count began.errors) ended.status [] began.errors ended.errors
    pub unwritten : IsUnwritten files old new
    pub reads_steady : files.read_fault_count new ≡ files.read_fault_count old

  -- ---- the answer

  -- what is answered and left if the words ask for this
  pub data AnswersTo (asked : Asked) (old new : F) (began : Began S K E) (ended : Ended S K E) : Type 0 where
    refused : (why : Refusal) → IsRefusal files asked why old new → IsUntouched why old new began ended →
        AnswersTo asked old new began ended
    ran : HasRun asked old new began ended → AnswersTo asked old new began ended
    debugged : (named : Replay) → asked ≡ replay named → HasDebugged named old new began ended →
        AnswersTo asked old new began ended

  -- what is answered and left, by the words
  pub data IsAnswered (words : List (List ℕ)) (old new : F) (began : Began S K E) (ended : Ended S K E) : Type 0 where
    unread : (why : Refusal) → IsWordRefusal why words → IsUntouched why old new began ended →
        IsAnswered words old new began ended
    read : (asked : Asked) → WordsAskFor words asked → AnswersTo asked old new began ended →
        IsAnswered words old new began ended

-- wrong words are answered by `Usage`, if memory suffices to read them, and no others are
pub record IsUsage (status : Status) (words : List (List ℕ)) : Type 0 where
  pub wrong : status ≡ Usage → (asked : Asked) → ¬ WordsAskFor words asked
  pub only : ((asked : Asked) → ¬ WordsAskFor words asked) → (status ≡ Usage) ⊎ (status ≡ NoMemory)
