-- What holds of a find.
use Rattle.std.specs.Prelude.{◌≡◌, ℕ, List, Some}
use Rattle.tt_core.specs.Stage.{Began}
use Rattle.tt_devices.specs.Names.{Names}
use Rattle.tt_devices.specs.declared.files.Files.{Ghosts as OfFiles}
use Rattle.tt_devices.specs.declared.sink.Sink.{Ghosts as OfSink}
use Rattle.tt_devices.specs.declared.source.Source.{Ghosts as OfSource}
use Rattle.tt_schedule.specs.ScheduleText.{IsScheduleText}
use Rattle.tt_search.specs.Searched.{HasFind}
use Rattle.tt_search.specs.declared.searched.Searched.{Searched}
use Rattle.tt_search_words.specs.Asked.{Search}
use Rattle.tt_session.specs.Answer.{HasRun}
use Rattle.tt_session.specs.AnswerLaws.{GotSame, IsSettled, replayed_as}
use Rattle.tt_session.specs.declared.ended.Ended.{Ended}
use Rattle.tt_session.specs.declared.status.Status.{Status}
use Rattle.tt_words.specs.Asked.{Replay, replay}

module _ {F S K E : Type 0} (files : OfFiles F) (source : OfSource S) (output : OfSink K) (errors : OfSink E) where
  -- A find whose schedule's text is recorded, and a replay of `tclthread` after that text, of the same script, with the
  -- same name, arguments, limit and input, both settled: the steps are the same, so are the bytes on both sinks but for
  -- reports and the status line, and so is the end of a find that was over; one that stalled ends with its schedule.
  abbrev pub FindLaw : Type 0
  FindLaw =
      (search : Search) (named : Replay) (text input : List ℕ) (names : Names) (old new store kept : F)
      (began again : Began S K E) (left : Searched S K E) (end : Status) (other : Ended S K E)
      (find : HasFind files source output errors search old new began left end)
      (second : HasRun files source output errors (replay named) store kept again other) →
      source.held began.input ≡ Some input →
      source.held again.input ≡ Some input →
      IsSettled end →
      IsSettled other.status →
      second.setup ≡ find.ran.setup →
      files.map store ≡ Some names →
      names named.schedule ≡ Some text →
      IsScheduleText text find.ended.schedule.threads →
      (other.schedule.threads ≡ find.ended.schedule.threads)
      × (other.status ≡ replayed_as end)
      × GotSame (output.got began.output) (output.got find.ran.finish.output)
      (output.got again.output) (output.got second.finish.output)
      × GotSame (errors.got find.middle) (errors.got find.ran.finish.errors)
      (errors.got again.errors) (errors.got second.finish.errors)
