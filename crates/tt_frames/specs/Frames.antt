-- What frames and askings mean: the rest of a plan.
use Rattle.std.specs.Prelude.{ℕ, ◌+◌, List, [], codes, drop}
use Rattle.std.specs.Arc.{arc_value}
use Rattle.tt_code.specs.Running.{needs, with_value}
use Rattle.tt_code.specs.declared.running.Running.{Running}
use Rattle.tt_outcomes.specs.declared.ending.Ending.{Ending}
use Rattle.tt_outcomes.specs.declared.ending.Ending.TheVariants.{Failed, Fine}
use Rattle.tt_evaluation.specs.Frames.{After, OnGot}
use Rattle.tt_evaluation.specs.Plans.{Goes}
use Rattle.tt_outcomes.specs.declared.got.Got.{Got}
use Rattle.tt_outcomes.specs.declared.want.Want.{Want}
use Rattle.tt_frames.specs.Asking.{following, on_reply, own_send}
use Rattle.tt_frames.specs.Control.{caught, clauses}
use Rattle.tt_frames.specs.Events as events
use Rattle.tt_frames.specs.Expressions.{needs_then}
use Rattle.tt_frames.specs.Held.{end_of_hold}
use Rattle.tt_frames.specs.Loops as loops
use Rattle.tt_frames.specs.Nesting.{left}
use Rattle.tt_frames.specs.Programs.{PlainStep, end_of, start_of, steps_of}
use Rattle.tt_frames.specs.Scripts.{commands, command_end, needing, command_then, command_of_words}
use Rattle.tt_frames.specs.Starts.{end_of_start, reporting}
use Rattle.tt_frames.specs.Vocabulary.{OnEnding, Then, ending_of, on_fine, on_truth, same_ending, variable_result}
use Rattle.tt_frames.specs.Workers as workers
use Rattle.tt_frames.specs.declared.job.Asking.{Asking}
use Rattle.tt_frames.specs.declared.job.Asking.TheVariants as asking
use Rattle.tt_frames.specs.declared.job.CommandFrame.{CommandFrame}
use Rattle.tt_frames.specs.declared.job.Frame.{Frame}
use Rattle.tt_frames.specs.declared.job.Frame.TheVariants as frame
use Rattle.tt_frames.specs.declared.job.Job.{Job}
use Rattle.tt_frames.specs.declared.job.Job.TheVariants as job
use Rattle.tt_frames.specs.declared.job.Loop.{Loop}
use Rattle.tt_frames.specs.declared.job.Loop.TheVariants as loop
use Rattle.tt_frames.specs.declared.job.Purpose.{Purpose}
use Rattle.tt_frames.specs.declared.job.WorkerAsking.{WorkerAsking}
use Rattle.tt_frames.specs.declared.job.WorkerAsking.TheVariants as worker_asking
use Rattle.tt_frames.specs.declared.job.WorkerFrame.{WorkerFrame}
use Rattle.tt_frames.specs.declared.job.WorkerFrame.TheVariants as worker_frame
use Rattle.tt_frames.specs.declared.state.Counts.{Counts}

-- ---- a command of a script ----

-- the commands from that of the frame on
abbrev pub steps_from : CommandFrame → List PlainStep
steps_from command = drop command.at (steps_of (arc_value command.program))

-- how the command of a frame ended
abbrev pub command_ended : CommandFrame → OnEnding
command_ended command =
    command_end (arc_value command.program) (start_of (steps_from command)) (end_of (steps_from command))
    (commands (arc_value command.program) (drop (command.at + 1) (steps_of (arc_value command.program))))

-- it goes on, or goes on with a value
abbrev pub command_needs : CommandFrame → Then
command_needs command =
    needing (command_of_words (command_ended command)) (command_ended command) (needs command.running)

abbrev pub command_given : CommandFrame → OnEnding
command_given command =
    on_fine
    (λ value. needing (command_of_words (command_ended command)) (command_ended command)
    (with_value command.running value))
    (command_ended command)

-- an expression goes on with a value
abbrev pub expression_given : Purpose → Running → OnEnding
expression_given purpose inside = on_fine (λ value. needs_then purpose (with_value inside value)) same_ending

-- ---- frames ----

-- the values of a turn go on
abbrev pub assigns : (left : List (List ℕ)) → Loop → Then
assigns left (loop.Foreach names values body) = loops.assigning names left values body
assigns left other = same_ending (Fine [])

-- a script of a worker
abbrev pub after_worker : WorkerFrame → OnEnding
after_worker (worker_frame.Aside next) = workers.aside next
after_worker (worker_frame.Runs begun) = workers.job_ended begun

abbrev pub after : After Job Want Got Ending Counts Frame
after (frame.Needs command) = command_given command
after (frame.Does command) = command_ended command
after (frame.Expression purpose inside) = expression_given purpose inside
after (frame.Clause body rest) = on_truth (Goes (job.Script body)) (clauses rest)
after (frame.Test loop) = on_truth (loops.bodily loop) loops.done
after (frame.LoopBody loop) = loops.after_body (loops.following loop)
after (frame.LoopNext loop) = loops.after_next (Goes (job.Loop loop))
after (frame.LoopStart loop) = on_fine (λ value. Goes (job.Loop loop)) same_ending
after (frame.Assigns left loop) = on_fine (λ old. assigns left loop) same_ending
after (frame.Catches variable) = caught variable
after (frame.Leaves body) = left body
after (frame.Sends variable) = own_send variable
after (frame.Stores result) = on_fine (λ old. same_ending (Fine result)) same_ending
after frame.Reports = end_of_start
after (frame.Rounds goal) = λ ending. Goes (job.Serve goal)
after (frame.Serves n answer plain) = events.script_served n answer plain
after frame.Sets = events.after_setting
after (frame.Held hold) = end_of_hold hold
after (frame.Works frame) = after_worker frame

-- ---- askings ----

-- what a worker waits for
abbrev pub on_worker_got : WorkerAsking → Got → Then
on_worker_got (worker_asking.Takes worker) got = workers.job_then worker got
on_worker_got (worker_asking.Told trace next) got = workers.reporting trace next
on_worker_got (worker_asking.JobTold begun fault) got = workers.handing_in begun (Failed fault)
on_worker_got (worker_asking.Done worker trace) got = workers.after_job worker trace

abbrev pub on_got : OnGot Job Want Got Ending Counts Asking
on_got (asking.Wanted frame) got = after frame (ending_of got)
on_got (asking.Runs command) got = command_then (command_ended command) got
on_got (asking.Paused command) got = command_needs command
on_got (asking.Begins job) got = Goes job
on_got (asking.Ends ending) got = same_ending ending
on_got (asking.Caught variable message) got = variable_result variable message (codes "1")
on_got (asking.Replied awaits) got = on_reply (following awaits) got
on_got (asking.Reported trace ending) got = reporting trace ending
on_got asking.Seen got = events.after_look (ending_of got)
on_got (asking.Taken goal) got = events.event_then goal got
on_got (asking.Sets name value) got = events.sets name value
on_got (asking.Left ending) got = events.set_reported ending
on_got (asking.Told n answer plain fault) got = events.handing (events.error_request n answer plain fault)
on_got asking.Handed got = events.after_handing got
on_got (asking.Works asking) got = on_worker_got asking got
