-- What holds of the answers.
use Rattle.std.specs.Prelude.{◌≡◌, ⊤, ℕ, List, Option, Some, IsSome}
use Rattle.tt_core.specs.Stage.{Began}
use Rattle.tt_devices.specs.Faults.{Rises}
use Rattle.tt_devices.specs.Names.{Names}
use Rattle.tt_devices.specs.Streams.{Grows}
use Rattle.tt_devices.specs.declared.files.Files.{Ghosts as OfFiles}
use Rattle.tt_devices.specs.declared.sink.Sink.{Ghosts as OfSink}
use Rattle.tt_devices.specs.declared.source.Source.{Ghosts as OfSource}
use Rattle.tt_schedule.specs.ScheduleText.{IsScheduleText}
use Rattle.tt_words.specs.Asked.{Asked, Plain, WordsAskFor, Replay, plain, replay}
use Rattle.tt_session.specs.Answer.{IsAnswered, HasRun}
use Rattle.tt_session.specs.Choosing.{limit_of}
use Rattle.tt_session.specs.declared.ended.Ended.{Ended}
use Rattle.tt_session.specs.declared.status.Status.{Status}
use Rattle.tt_session.specs.declared.status.Status.TheVariants.{ScheduleEnded, Stalled, StepLimit}
use Rattle.tt_session.specs.declared.status.Status.TheVariants.{ReadFault, WriteFault, NoMemory}

-- no device failed, and no memory was refused
abbrev pub IsSettled : Status → Type 0
IsSettled ReadFault = ⊥
IsSettled WriteFault = ⊥
IsSettled NoMemory = ⊥
IsSettled status = ⊤

-- how a run ends that is replayed after its own schedule
abbrev pub replayed_as : Status → Status
replayed_as Stalled = ScheduleEnded
replayed_as (StepLimit steps) = ScheduleEnded
replayed_as status = status

-- two streams got the same bytes
pub record GotSame (old new before after : Option (List ℕ)) : Type 0 where
  pub bytes : List ℕ
  pub grew : Grows old new bytes
  pub grows : Grows before after bytes

-- Two calls end alike: with the same status, after the same steps, and with the same bytes on both sinks. On standard
-- error they are the same unless it failed, which may cut a status line short.
pub record IsSameAnswer {S K E : Type 0} (output : OfSink K) (errors : OfSink E)
    (began again : Began S K E) (one other : Ended S K E) : Type 0 where
  pub status : one.status ≡ other.status
  pub steps : one.schedule.threads ≡ other.schedule.threads
  pub out :
      GotSame (output.got began.output) (output.got one.output) (output.got again.output) (output.got other.output)
  pub err :
      ¬ Rises (errors.fault_count began.errors) (errors.fault_count one.errors) →
      ¬ Rises (errors.fault_count again.errors) (errors.fault_count other.errors) →
      GotSame (errors.got began.errors) (errors.got one.errors) (errors.got again.errors) (errors.got other.errors)

module _ {F S K E : Type 0} (files : OfFiles F) (source : OfSource S) (output : OfSink K) (errors : OfSink E) where
  -- Two settled answers to the same words, files and input are the same, and so are the steps and the bytes: of a plain
  -- run, if the steps are the same.
  abbrev pub OneAnswerLaw : Type 0
  OneAnswerLaw =
      (words : List (List ℕ)) (names : Names) (input : List ℕ)
      (old new store kept : F) (began again : Began S K E) (one other : Ended S K E) →
      files.map old ≡ Some names →
      files.map store ≡ Some names →
      source.held began.input ≡ Some input →
      source.held again.input ≡ Some input →
      IsSettled one.status →
      IsSettled other.status →
      IsAnswered files source output errors words old new began one →
      IsAnswered files source output errors words store kept again other →
      ((named : Plain) → WordsAskFor words (plain named) → one.schedule.threads ≡ other.schedule.threads) →
      IsSameAnswer output errors began again one other

module _ {F S T K E : Type 0} (files : OfFiles F) (source : OfSource S) (other_source : OfSource T)
    (output : OfSink K) (errors : OfSink E) where
  -- A run whose schedule's text is recorded, and a replay after that text of the same script, with the same name,
  -- arguments, limit and input, both settled: the steps are the same, so are the bytes on both sinks but for the status
  -- lines, and so is the end of a run that was over; one that stalled or met its limit ends with its schedule.
  abbrev pub ReplayLaw : Type 0
  ReplayLaw =
      (asked : Asked) (named : Replay) (text input : List ℕ) (names : Names)
      (old new store kept : F) (began : Began S K E) (again : Began T K E) (one : Ended S K E) (other : Ended T K E)
      (first : HasRun files source output errors asked old new began one)
      (second : HasRun files other_source output errors (replay named) store kept again other) →
      source.held began.input ≡ Some input →
      other_source.held again.input ≡ Some input →
      IsSettled one.status →
      IsSettled other.status →
      IsSome (limit_of first.mode) →
      second.setup ≡ first.setup →
      files.map store ≡ Some names →
      names named.schedule ≡ Some text →
      IsScheduleText text one.schedule.threads →
      (other.schedule.threads ≡ one.schedule.threads)
      × (other.status ≡ replayed_as one.status)
      × GotSame (output.got began.output) (output.got first.finish.output)
      (output.got again.output) (output.got second.finish.output)
      × GotSame (errors.got began.errors) (errors.got first.finish.errors)
      (errors.got again.errors) (errors.got second.finish.errors)
