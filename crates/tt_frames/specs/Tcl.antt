-- The language: the plan of each job.
use Rattle.tt_evaluation.specs.Evaluation.{Meaning}
use Rattle.tt_outcomes.specs.declared.ending.Ending.{Ending}
use Rattle.tt_outcomes.specs.declared.got.Got.{Got}
use Rattle.tt_outcomes.specs.declared.want.Want.{Want}
use Rattle.tt_frames.specs.Control.{own}
use Rattle.tt_frames.specs.Events.{happens, round, taking}
use Rattle.tt_frames.specs.Expressions.{expression}
use Rattle.tt_frames.specs.Held.{script_in_hold}
use Rattle.tt_frames.specs.Loops.{looping, turning}
use Rattle.tt_frames.specs.Nesting.{global, body_then}
use Rattle.tt_frames.specs.Scripts.{script}
use Rattle.tt_frames.specs.Starts.{starting}
use Rattle.tt_frames.specs.Workers.{working}
use Rattle.tt_frames.specs.declared.job.Job.{Job}
use Rattle.tt_frames.specs.declared.job.Job.TheVariants as job
use Rattle.tt_frames.specs.declared.state.Counts.{Counts}

abbrev pub plan : Meaning Job Want Got Ending Counts
plan (job.Start start) = starting start
plan (job.Script text) = script text
plan (job.Expression purpose text) = expression purpose text
plan (job.Own words) = own words
plan (job.Nested body text) = body_then body text
plan (job.Global text) = global text
plan (job.Loop loop) = looping loop
plan (job.Turn loop) = turning loop
plan (job.Serve goal) = round goal
plan (job.Take goal) = taking goal
plan (job.Event event) = happens event
plan (job.Held hold text) = script_in_hold hold text
plan (job.Work work) = working work
