-- Commands that ask what the threads share, and what follows the replies (thread(n), tsv(n), tpool(n), puts(n),
-- gets(n)).
use Rattle.std.specs.Prelude.{ℕ, true, false, List, [], ◌∷◌, ◌++◌, codes, length, decimal, Option, Some, None}
use Rattle.tt_calls.specs.declared.chan_call.ChanCall.TheVariants as chan
use Rattle.tt_calls.specs.declared.lock_call.LockCall.TheVariants as lock
use Rattle.tt_calls.specs.declared.pool_call.PoolCall.TheVariants as pool
use Rattle.tt_calls.specs.declared.reply.Reply.{Reply}
use Rattle.tt_calls.specs.declared.reply.Reply.TheVariants as reply
use Rattle.tt_calls.specs.declared.request.Request.{Request}
use Rattle.tt_calls.specs.declared.request.Request.TheVariants as ask
use Rattle.tt_calls.specs.declared.tsv_call.TsvCall.TheVariants as tsv
use Rattle.tt_command_tables.specs.declared.call.Call.{Call}
use Rattle.tt_command_tables.specs.declared.call.Call.TheVariants as call
use Rattle.tt_command_tables.specs.declared.call.Goal.{Goal}
use Rattle.tt_command_tables.specs.declared.call.Goal.TheVariants as goal
use Rattle.tt_command_tables.specs.declared.call.Here.TheVariants as here
use Rattle.tt_command_tables.specs.declared.call.Then.{Then as After}
use Rattle.tt_command_tables.specs.declared.call.Then.TheVariants as after
use Rattle.tt_outcomes.specs.Endings.{code_of, error_ending, fine, number_of, of_outcome, text_of}
use Rattle.tt_outcomes.specs.declared.ending.Ending.{Ending}
use Rattle.tt_evaluation.specs.Plans.{Asks, Calls, Goes}
use Rattle.tt_text.specs.Characters.{characters}
use Rattle.tt_outcomes.specs.declared.got.Got.{Got}
use Rattle.tt_outcomes.specs.declared.got.Got.TheVariants as got
use Rattle.tt_outcomes.specs.declared.want.Want.TheVariants.{Ask, Watch}
use Rattle.tt_frames.specs.Vocabulary.{OnEnding, Then, same_ending, variable_result}
use Rattle.tt_frames.specs.declared.job.Awaits.{Awaits}
use Rattle.tt_frames.specs.declared.job.Awaits.TheVariants as awaits
use Rattle.tt_frames.specs.declared.job.Hold.TheVariants as hold
use Rattle.tt_frames.specs.declared.job.Job.TheVariants as job
use Rattle.tt_frames.specs.declared.job.JobsWait.{JobsWait}
use Rattle.tt_frames.specs.declared.job.Until.TheVariants as until

-- ---- replies ----

-- the error of a script's target that has ended (thread(n), thread::send)
abbrev pub end_message : List ℕ
end_message = codes "target thread died"

-- the answer that a reply is: of tpool::cancel the jobs that are removed
abbrev pub answer : Reply → Ending
answer (reply.Refused message) = error_ending message
answer (reply.Value value) = fine value
answer (reply.Line line) = fine line
answer (reply.Answer outcome) = of_outcome outcome
answer (reply.Lists removed left) = fine removed
answer reply.Died = error_ending end_message
answer reply = fine []

-- a reply that a variable gets, with the command's answer: of gets(n) how many characters, or -1 at the end; of
-- tsv::get whether there is one; of tpool::cancel the jobs that are removed
abbrev pub reply_in_variable : (name : List ℕ) → Reply → Then
reply_in_variable name (reply.Line line) = variable_result (Some name) line (decimal (length (characters line)))
reply_in_variable name reply.LineEnd = variable_result (Some name) [] (codes "-1")
reply_in_variable name (reply.Found true value) = variable_result (Some name) value (codes "1")
reply_in_variable name (reply.Found false value) = same_ending (fine (codes "0"))
reply_in_variable name (reply.Lists removed left) = variable_result (Some name) left removed
reply_in_variable name reply = same_ending (answer reply)

-- the outcome of a post: a variable gets its value, and the answer is its code
abbrev pub outcome_in : Option (List ℕ) → Reply → Then
outcome_in (Some name) (reply.Answer outcome) = variable_result (Some name) outcome.value (number_of outcome.code)
outcome_in variable reply = same_ending (answer reply)

-- an answer, if it isn't refused
abbrev pub unless_refused : (value : List ℕ) → Reply → Ending
unless_refused value (reply.Refused message) = error_ending message
unless_refused value reply = fine value

-- ---- requests ----

-- what follows a reply
abbrev pub on_reply : (go : Reply → Then) → Got → Then
on_reply go (got.Reply reply) = go reply
on_reply go got = same_ending (fine [])

-- a request, and what follows its reply
abbrev pub asking : Request → (go : Reply → Then) → Then
asking request go state = Asks (Ask request) state (on_reply go)

-- the reply is the answer
abbrev pub answering : Reply → Then
answering reply = same_ending (answer reply)

-- what follows the first reply to a command: its answer, or a wait
abbrev pub following : Awaits → Reply → Then
following awaits.Value reply = answering reply
following (awaits.Store name) reply = reply_in_variable name reply
following (awaits.Outcome variable) reply = outcome_in variable reply
following (awaits.Answers value) reply = same_ending (unless_refused value reply)
following (awaits.Result variable) (reply.Posted n) = asking (ask.Await n) (outcome_in variable)
following (awaits.End thread) (reply.Value count) =
    asking (ask.AwaitEnd thread) (λ reply. same_ending (unless_refused count reply))
following awaits.NamedEnd (reply.Waits thread) = asking (ask.AwaitEnd thread) answering
following (awaits.Move name) reply.Go = asking (ask.Chan (chan.AwaitMove name)) answering
following (awaits.Retake condition mutex) reply.Go = asking (ask.Lock (lock.CondTake condition mutex)) answering
following (awaits.Held hold script) reply.Go = Goes (job.Held hold script)
following awaits reply = answering reply

-- the channel that is moved, and the condition that is waited for (thread(n), thread::transfer, thread::cond)
abbrev pub moving : Request → Awaits
moving (ask.Chan (chan.Transfer id name)) = awaits.Move name
moving request = awaits.Value

abbrev pub retaking : Request → Awaits
retaking (ask.Lock (lock.CondWait condition mutex after)) = awaits.Retake condition mutex
retaking request = awaits.Value

-- what is held while a script is evaluated (tsv(n), tsv::lock; thread(n), thread::eval)
abbrev pub holding : (script : List ℕ) → Request → Awaits
holding script (ask.Tsv (tsv.Hold array)) = awaits.Held (hold.Array array) script
holding script (ask.Lock (lock.Lock id)) = awaits.Held (hold.Mutex id) script
holding script request = awaits.Value

abbrev pub awaits_of : Request → After → Awaits
awaits_of request after.Value = awaits.Value
awaits_of request (after.Store name) = awaits.Store name
awaits_of request (after.AwaitResult variable) = awaits.Result variable
awaits_of request (after.AwaitEnd (Some thread)) = awaits.End thread
awaits_of request (after.AwaitEnd None) = awaits.NamedEnd
awaits_of request after.AwaitMove = moving request
awaits_of request after.Retake = retaking request
awaits_of request (after.Held script) = holding script request
awaits_of request (after.Serve goal) = awaits.Value

-- ---- event loops ----

abbrev pub wait_for : (pool : List ℕ) → (jobs : List (List ℕ)) → Option (List ℕ) → JobsWait
wait_for pool jobs variable = record { pool = pool; jobs = jobs; variable = variable }

-- a wait for the jobs that are asked for (tpool(n), tpool::wait)
abbrev pub waiting : Request → Option (List ℕ) → Then
waiting (ask.Pool (pool.Look pool jobs)) variable = Goes (job.Serve (until.Jobs (wait_for pool jobs variable)))
waiting request variable = asking request answering

-- a command that serves events up to its goal: a variable is watched from there on (vwait(n), update(n), thread(n),
-- thread::wait)
abbrev pub serving : Request → Goal → Then
serving request (goal.Written name) state = Asks (Watch name) state (λ got. Goes (job.Serve until.Written))
serving request goal.Idle state = Goes (job.Serve until.Idle) state
serving request goal.Stopped state = Goes (job.Serve until.Stopped) state
serving request (goal.Pool variable) state = waiting request variable state

-- a command that asks
abbrev pub request_then : Request → After → Then
request_then request (after.Serve goal) = serving request goal
request_then request after = asking request (following (awaits_of request after))

-- ---- commands ----

-- a name that no command has (unknown(n))
abbrev pub invalid_name : (name : List ℕ) → List ℕ
invalid_name name = codes "invalid command name \"" ++ (name ++ codes "\"")

abbrev pub unknown : (words : List (List ℕ)) → Ending
unknown [] = fine []
unknown (name ∷ words) = error_ending (invalid_name name)

-- a send to oneself: without a variable its script's ending is the command's (thread(n), thread::send)
abbrev pub own_send : Option (List ℕ) → OnEnding
own_send None ending = same_ending ending
own_send (Some name) ending = variable_result (Some name) (text_of ending) (number_of (code_of ending))

-- what the words of a command do by the tables
abbrev pub call_then : Call → (words : List (List ℕ)) → Then
call_then call.Other words = same_ending (unknown words)
call_then (call.Bad message) words = same_ending (error_ending message)
call_then (call.Here (here.Local value)) words = same_ending (fine value)
call_then (call.Here (here.Direct script variable)) words = λ state.
    Calls None (job.Global script) state (own_send variable)
call_then (call.Ask request after) words = request_then request after
