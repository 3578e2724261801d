-- What a worker of a pool does from its start to its end (tpool(n), tpool::create, tpool::post).
use Rattle.std.specs.Prelude.{ℕ, Bool, true, false, List, [], Option, Some, None}
use Rattle.tt_calls.specs.declared.pool_call.PoolCall.TheVariants.{JobDone, JobTake}
use Rattle.tt_calls.specs.declared.reply.Reply.TheVariants as reply
use Rattle.tt_calls.specs.declared.request.Request.TheVariants as ask
use Rattle.tt_outcomes.specs.Endings.{fine, outcome_of}
use Rattle.tt_outcomes.specs.Places.{of_script}
use Rattle.tt_outcomes.specs.declared.ending.Ending.{Ending}
use Rattle.tt_outcomes.specs.declared.ending.Ending.TheVariants.{Failed}
use Rattle.tt_evaluation.specs.Plans.{Asks, Calls, Goes}
use Rattle.tt_outcomes.specs.declared.got.Got.{Got}
use Rattle.tt_outcomes.specs.declared.got.Got.TheVariants as got
use Rattle.tt_outcomes.specs.declared.want.Want.TheVariants.{Ask}
use Rattle.tt_frames.specs.Vocabulary.{OnEnding, Then, same_ending, with_error_info}
use Rattle.tt_frames.specs.declared.job.BegunJob.{BegunJob}
use Rattle.tt_frames.specs.declared.job.Job.TheVariants as job
use Rattle.tt_frames.specs.declared.job.Work.{Work}
use Rattle.tt_frames.specs.declared.job.Work.TheVariants.{Takes, Over}
use Rattle.tt_frames.specs.declared.job.Worker.{Worker}

-- an error is reported, and the worker goes on
abbrev pub reporting : (trace : List ℕ) → Work → Then
reporting trace next state = Asks (Ask (ask.Report trace false)) state (λ got. Goes (job.Work next))

-- ---- the scripts of the pool ----

-- how the script for new workers, or the one for those that end, came out: an error is recorded and reported
abbrev pub work_after_report : Work → OnEnding
work_after_report next (Failed fault) = with_error_info fault.trace.text (reporting fault.trace.text next)
work_after_report next ending = Goes (job.Work next)

abbrev pub aside : Work → OnEnding
aside next ending = work_after_report next (of_script ending)

-- a worker begins with the script for new ones
abbrev pub begins : (init : List ℕ) → Worker → Then
begins init worker state = Calls None (job.Script init) state (aside (Takes worker))

abbrev pub worker_of : (pool exit : List ℕ) → Worker
worker_of pool exit = record { pool = pool; exit = exit }

-- ---- jobs ----

abbrev pub begun_job : Worker → (number : ℕ) → (detached : Bool) → BegunJob
begun_job worker number detached = record { worker = worker; number = number; detached = detached }

-- the trace that is reported: that of the error of a detached job
abbrev pub reported_trace : (detached : Bool) → Ending → Option (List ℕ)
reported_trace true (Failed fault) = Some fault.trace.text
reported_trace detached ending = None

-- a job is done, and the next one is taken
abbrev pub after_job : Worker → (trace : Option (List ℕ)) → Then
after_job worker None = Goes (job.Work (Takes worker))
after_job worker (Some trace) = reporting trace (Takes worker)

-- the pool gets what the job came to; what is replied changes nothing
abbrev pub handing_in : BegunJob → Ending → Then
handing_in begun ending state =
    Asks (Ask (ask.Pool (JobDone begun.worker.pool begun.number (outcome_of ending)))) state
    (λ got. after_job begun.worker (reported_trace begun.detached ending))

-- how the script of a job came out: an error is recorded
abbrev pub end_of_job : BegunJob → OnEnding
end_of_job begun (Failed fault) = with_error_info fault.trace.text (handing_in begun (Failed fault))
end_of_job begun ending = handing_in begun ending

abbrev pub job_ended : BegunJob → OnEnding
job_ended begun ending = end_of_job begun (of_script ending)

-- ---- what a worker does next ----

-- it has a job, or there is none: then comes the script for workers that end
abbrev pub job_then : Worker → Got → Then
job_then worker (got.Reply (reply.Job number script detached)) state =
    Calls None (job.Script script) state (job_ended (begun_job worker number detached))
job_then worker other state = Calls None (job.Script worker.exit) state (aside Over)

abbrev pub working : Work → Then
working (Takes worker) state = Asks (Ask (ask.Pool (JobTake worker.pool))) state (job_then worker)
working Over state = same_ending (fine []) state
