-- What a search's numbers keep to, and what the run of a find leaves.
use Rattle.std.specs.Prelude.{◌≡◌, ◌≤◌, ℕ, List}
use Rattle.tt_devices.specs.Memory.{Supply}
use Rattle.tt_devices.specs.declared.files.Files.{Ghosts as OfFiles}
use Rattle.tt_devices.specs.declared.sink.Sink.{Ghosts as OfSink}
use Rattle.tt_schedule.specs.ScheduleText.{most_steps}
use Rattle.tt_search.specs.Searched.{IsReported, in_memory}
use Rattle.tt_search.specs.declared.searched.Searched.{Searched}
use Rattle.tt_search_words.specs.Asked.{Search}
use Rattle.tt_session.specs.Answer.{HasRun}
use Rattle.tt_session.specs.declared.ended.Ended.{Ended}
use Rattle.tt_session.specs.declared.status.Status.{Status}
use Rattle.tt_words.specs.Asked.{plain}

-- there are workers, and a schedule has room for the steps
pub record IsInRange (search : Search) : Type 0 where
  pub workers : 1 ≤ search.plain.workers
  pub steps : search.plain.steps ≤ most_steps
  pub runs : search.runs ≤ 1000000

module _ {F K E : Type 0} (files : OfFiles F) (output : OfSink K) (errors : OfSink E) where
  -- the run of a find over these bytes of standard input, and the reports after it
  pub record HasShown {S : Type 0} (search : Search) (bytes : List ℕ) (old new : F) (out : K) (err : E)
      (left : Searched S K E) (end : Status) : Type 0 where
    pub supply : Supply
    pub ended : Ended Supply K E
    pub input_is : supply.left ≡ bytes
    pub ran : HasRun files in_memory output errors (plain search.plain) old new
        (record { input = supply; output = out; errors = err }) ended
    pub ends : end ≡ ended.status
    pub output_is : left.output ≡ ended.output
    pub after : IsReported (errors.got ended.errors) (errors.got left.errors)
