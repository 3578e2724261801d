-- What tpool::get is answered of a job that has ended (tpool(n)).
use Rattle.std.specs.Prelude.{◌≡◌, ℕ, false, IsTrue, List, Some}
use Rattle.std.specs.List.{Contains}
use Rattle.laws_pools.specs.PoolHappenings.{PoolHappening, Got, happenings, is_id}
use Rattle.laws_pools.specs.PoolJobs.{CameTo, IsOpen, IsPosted}
use Rattle.laws_shared.specs.Actions.{Action, Acts}
use Rattle.tt_calls.specs.declared.outcome.Outcome.{Outcome}
use Rattle.tt_calls.specs.declared.pool_call.PoolCall.TheVariants.{Get}
use Rattle.tt_calls.specs.declared.reply.Reply.TheVariants.{Answer}
use Rattle.tt_calls.specs.declared.request.Request.TheVariants as ask
use Rattle.tt_calls.specs.declared.start.Start.{Start}
use Rattle.tt_ids.specs.Ids.{number_named}
use Rattle.tt_shared.specs.Acts.{act}
use Rattle.tt_shared.specs.State.{State, start_state}
use Rattle.tt_shared.specs.declared.applied.Line.{Line}

-- a job that is not detached has come to that, and nobody has got it; its pool was not closed
pub record IsReady (happened : List PoolHappening) (n : ℕ) (outcome : Outcome) : Type 0 where
  pub posted : IsPosted happened n false
  pub is : CameTo happened n outcome
  pub unanswered : (t : ℕ) (other : Outcome) → ¬ (Contains happened (Got n t other))
  pub unclosed : IsOpen happened

-- then whoever asks for it, by the id of its pool and by its number, is answered that
abbrev pub AnswerLaw : Type 0
AnswerLaw =
    (main : Start) (actions : List Action) (state : State) (p n : ℕ) (outcome : Outcome) →
    (t : ℕ) (text job : List ℕ) (line : Line) →
    Acts (start_state main) actions state →
    IsReady (happenings p (start_state main) actions) n outcome →
    IsTrue (is_id p text) →
    number_named job ≡ Some n →
    (act state t (ask.Pool (Get text job)) line).gives.reply ≡ Answer outcome
