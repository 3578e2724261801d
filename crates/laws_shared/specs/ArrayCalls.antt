-- The calls on shared variables among what threads do (tsv(n)).
use Rattle.std.specs.Prelude.{ℕ, List, [], ◌∷◌, Option, Some, None}
use Rattle.std.specs.List.{filter_map, fold}
use Rattle.tt_calls.specs.declared.reply.Reply.{Reply}
use Rattle.tt_calls.specs.declared.reply.Step.{Step}
use Rattle.tt_calls.specs.declared.request.Request.{Request}
use Rattle.tt_calls.specs.declared.request.Request.TheVariants as ask
use Rattle.tt_calls.specs.declared.tsv_call.TsvCall.{TsvCall}
use Rattle.laws_shared.specs.Actions.{Action, Moment, action_result, moments}
use Rattle.tt_shared.specs.State.{State}
use Rattle.tt_tsv.specs.Calls.{step_after, table_after}
use Rattle.tt_tsv.specs.Arrays.{Table}

-- a call, and the thread that makes it
pub record ArrayCall : Type 0 where
  pub thread : ℕ
  pub call : TsvCall

-- the call of an action, if it is one on shared variables
abbrev pub call_of : (thread : ℕ) → Request → Option ArrayCall
call_of thread (ask.Tsv call) = Some (record { thread = thread; call = call })
call_of thread request = None

abbrev pub array_call : Action → Option ArrayCall
array_call action = call_of action.thread action.request

-- those of a list of actions, in order
abbrev pub array_calls : List Action → List ArrayCall
array_calls actions = filter_map array_call actions

-- what they are answered
abbrev pub reply_where : Option ArrayCall → Reply → Option Reply
reply_where None reply = None
reply_where (Some call) reply = Some reply

abbrev pub array_reply : Moment → Option Reply
array_reply moment = reply_where (array_call moment.action) (action_result moment.before moment.action).gives.reply

abbrev pub array_replies : State → List Action → List Reply
array_replies state actions = filter_map array_reply (moments state actions)

-- ---- the calls alone ----

-- the arrays after calls, one after the other
abbrev pub array_after : Table → ArrayCall → Table
array_after table call = table_after table call.thread call.call

abbrev pub arrays_after : Table → List ArrayCall → Table
arrays_after table calls = fold array_after table calls

-- what each of them gives
abbrev pub array_steps : Table → List ArrayCall → List Step
array_steps table [] = []
array_steps table (call ∷ calls) =
    step_after table call.thread call.call ∷ array_steps (array_after table call) calls
