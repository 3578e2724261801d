-- The wait for jobs of a pool (tpool(n), tpool::wait).
use Rattle.tt_calls.specs.declared.pool_call.PoolCall.TheVariants.{Look}
use Rattle.tt_calls.specs.declared.reply.Reply.{Reply}
use Rattle.tt_calls.specs.declared.reply.Reply.TheVariants.{Lists}
use Rattle.tt_calls.specs.declared.request.Request.{Request}
use Rattle.tt_calls.specs.declared.request.Request.TheVariants as ask
use Rattle.tt_frames.specs.Asking.{answering}
use Rattle.tt_frames.specs.Vocabulary.{Then, variable_result}
use Rattle.tt_frames.specs.declared.job.JobsWait.{JobsWait}

-- what asks for the jobs that are done, or for an event
abbrev pub look_of : JobsWait → Request
look_of wait = ask.Pool (Look wait.pool wait.jobs)

-- the jobs that are done are the answer, and the variable gets those that are pending
abbrev pub jobs_answer : JobsWait → Reply → Then
jobs_answer wait (Lists done pending) = variable_result wait.variable pending done
jobs_answer wait reply = answering reply
