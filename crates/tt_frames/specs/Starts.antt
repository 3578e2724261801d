-- What a thread does from its start to its end (thread(n), thread::create).
use Rattle.std.specs.Prelude.{ℕ, false, ◌==◌, if◌then◌else◌, List, [], ◌∷◌, ◌++◌, None}
use Rattle.tt_calls.specs.declared.request.Request.{Request}
use Rattle.tt_calls.specs.declared.request.Request.TheVariants.{Report, WriteErr}
use Rattle.tt_calls.specs.declared.start.Start.{Start}
use Rattle.tt_calls.specs.declared.start.Start.TheVariants.{Script, Worker}
use Rattle.tt_outcomes.specs.Places.{of_script}
use Rattle.tt_outcomes.specs.declared.ending.Ending.{Ending}
use Rattle.tt_outcomes.specs.declared.ending.Ending.TheVariants.{Failed}
use Rattle.tt_evaluation.specs.Plans.{Asks, Calls}
use Rattle.tt_outcomes.specs.declared.want.Want.TheVariants.{Ask}
use Rattle.tt_frames.specs.Vocabulary.{OnEnding, Then, same_ending, with_error_info}
use Rattle.tt_frames.specs.Workers.{begins, worker_of}
use Rattle.tt_frames.specs.declared.job.Job.TheVariants as job

-- the main thread writes the trace of the error that it ends with, another one reports it
abbrev pub report : (me : ℕ) → (trace : List ℕ) → Request
report me trace = if me == 1 then WriteErr (trace ++ 10 ∷ []) else Report trace false

abbrev pub reporting : (trace : List ℕ) → Ending → Then
reporting trace ending state = Asks (Ask (report state.me trace)) state (λ got. same_ending ending)

-- an error is recorded and reported
abbrev pub error_report : OnEnding
error_report (Failed fault) = with_error_info fault.trace.text (reporting fault.trace.text (Failed fault))
error_report ending = same_ending ending

-- how the script of a start ended
abbrev pub end_of_start : OnEnding
end_of_start ending = error_report (of_script ending)

abbrev pub starting : Start → Then
starting (Script text) state = Calls None (job.Script text) state end_of_start
starting (Worker pool init exit) state = begins init (worker_of pool exit) state
