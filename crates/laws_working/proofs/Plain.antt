-- Plans that ask no job of a pool and hand none in, nor do the jobs that they call and go over into.
use Rattle.std.proofs.Common.{◌≡◌, ℕ, Bool, true, false, List, Option}
use Rattle.tt_calls.specs.declared.pool_call.PoolCall.TheVariants as pool
use Rattle.tt_calls.specs.declared.request.Request.TheVariants as ask
use Rattle.tt_calls.specs.declared.request.Request.{Request}
use Rattle.tt_evaluation.specs.Plans.{Asks, Calls, Ends, Goes}
use Rattle.tt_frames.specs.Scripts.{OnValues}
use Rattle.tt_frames.specs.Vocabulary.{OnEnding, OnValue, TclPlan, Then}
use Rattle.tt_frames.specs.declared.job.Job.TheVariants as job
use Rattle.tt_frames.specs.declared.job.Job.{Job}
use Rattle.tt_frames.specs.declared.state.Counts.{Counts}
use Rattle.tt_outcomes.specs.declared.ending.Ending.{Ending}
use Rattle.tt_outcomes.specs.declared.got.Got.{Got}
use Rattle.tt_outcomes.specs.declared.want.Want.TheVariants as want
use Rattle.tt_outcomes.specs.declared.want.Want.{Want}

-- a request of anybody
abbrev pub is_plain : Request → Bool
is_plain (ask.Pool (pool.JobTake text)) = false
is_plain (ask.Pool (pool.JobDone text n outcome)) = false
is_plain request = true

abbrev pub wants_plainly : Want → Bool
wants_plainly (want.Ask request) = is_plain request
wants_plainly wanted = true

-- all jobs but those that are a whole thread, and what a worker does next
abbrev pub is_part : Job → Bool
is_part (job.Start start) = false
is_part (job.Work next) = false
is_part other = true

pub data Plain : TclPlan → Type 0 where
  ends : {ended : Ending} {state : Counts} → Plain (Ends ended state)
  asks : {wanted : Want} {state : Counts} {on : Got → Counts → TclPlan} → wants_plainly wanted ≡ true
      → ((it : Got) (after : Counts) → Plain (on it after)) → Plain (Asks wanted state on)
  calls : {serves : Option ℕ} {called : Job} {state : Counts} {on : OnEnding} → is_part called ≡ true
      → ((ended : Ending) (after : Counts) → Plain (on ended after)) → Plain (Calls serves called state on)
  goes : {next : Job} {state : Counts} → is_part next ≡ true → Plain (Goes next state)

abbrev pub PlainThen : Then → Type 0
PlainThen next = (state : Counts) → Plain (next state)

abbrev pub PlainEnding : OnEnding → Type 0
PlainEnding next = (ended : Ending) (state : Counts) → Plain (next ended state)

abbrev pub PlainValue : OnValue → Type 0
PlainValue next = (value : List ℕ) (state : Counts) → Plain (next value state)

abbrev pub PlainValues : OnValues → Type 0
PlainValues next = (values : List (List ℕ)) (state : Counts) → Plain (next values state)
