-- Runs with answers as examples: what threads are answered, and what happens (thread(n), thread::send).
use Rattle.std.specs.Prelude.{◌≡◌, false, List, [], ◌∷◌, codes, None, Some, map, pos, true}
use Rattle.laws_shared.specs.Actions.{Action, Moment, action_result, moments}
use Rattle.laws_shared.specs.Example.{by, creation, main, outcome}
use Rattle.laws_shared.specs.Happenings.{Began, Died, Finished, Got, Posted, Set, Variable, Waiting, happenings}
use Rattle.tt_calls.specs.declared.event.Event.TheVariants as event
use Rattle.tt_calls.specs.declared.reply.Reply.{Reply}
use Rattle.tt_calls.specs.declared.reply.Reply.TheVariants as reply
use Rattle.tt_calls.specs.declared.request.Mode.TheVariants.{Later, Waits}
use Rattle.tt_calls.specs.declared.request.Request.TheVariants as ask
use Rattle.tt_shared.specs.State.{State}

-- what each action of a list is answered
abbrev pub reply_at : Moment → Reply
reply_at moment = (action_result moment.before moment.action).gives.reply

abbrev pub replies : State → List Action → List Reply
replies state actions = map reply_at (moments state actions)

-- main sends thread 2 a script for a variable
abbrev pub asks : Action
asks = by 1 (ask.Send (codes "tid2") (codes "x") Later (Some (codes "r")) false)

-- main asks for the answer in a variable; thread 2 hands it over, and then once more
abbrev pub delivered : List Action
delivered =
    creation
    ∷ asks
    ∷ by 2 ask.Take
    ∷ by 2 (ask.Deliver 1 outcome)
    ∷ by 2 (ask.Deliver 1 outcome)
    ∷ by 1 ask.Take
    ∷ by 1 ask.Take
    ∷ []

-- two answers are asked for in variables, but thread 2 ends before
abbrev pub left : List Action
left =
    creation
    ∷ asks
    ∷ by 1 (ask.Send (codes "tid2") (codes "y") Later (Some (codes "s")) false)
    ∷ by 2 (ask.End (pos 0))
    ∷ by 1 ask.Take
    ∷ by 1 ask.Take
    ∷ by 1 ask.Take
    ∷ []

-- main waits for an answer; thread 2 hands it over twice, and main asks for it twice
abbrev pub awaited : List Action
awaited =
    creation
    ∷ by 1 (ask.Send (codes "tid2") (codes "x") Waits None false)
    ∷ by 2 ask.Take
    ∷ by 2 (ask.Deliver 1 outcome)
    ∷ by 2 (ask.Deliver 1 outcome)
    ∷ by 1 (ask.Await 1)
    ∷ by 1 (ask.Await 1)
    ∷ by 2 (ask.Deliver 1 outcome)
    ∷ []

pub record WorkedVariables : Type 0 where
  pub delivered_replies :
      replies main delivered
      ≡ reply.Value (codes "tid2")
      ∷ reply.Posted 1
      ∷ reply.Event (event.Script 1 (codes "x") true false)
      ∷ reply.Served false
      ∷ reply.Refused []
      ∷ reply.Event (event.SetVar (codes "r") (codes "v"))
      ∷ reply.NoEvent
      ∷ []
  pub delivered_once :
      happenings main delivered
      ≡ Posted 1 1 2 Variable false
      ∷ Began 1 2
      ∷ Finished 1 outcome
      ∷ Set 1 1 (codes "v")
      ∷ []
  pub left_replies :
      replies main left
      ≡ reply.Value (codes "tid2")
      ∷ reply.Posted 1
      ∷ reply.Posted 2
      ∷ reply.Go
      ∷ reply.Event (event.SetVar (codes "r") (codes "target thread died"))
      ∷ reply.Event (event.SetVar (codes "s") (codes "target thread died"))
      ∷ reply.NoEvent
      ∷ []
  pub left_once :
      happenings main left
      ≡ Posted 1 1 2 Variable false
      ∷ Posted 2 1 2 Variable false
      ∷ Died 1
      ∷ Died 2
      ∷ Set 1 1 (codes "target thread died")
      ∷ Set 2 1 (codes "target thread died")
      ∷ []
  pub awaited_replies :
      replies main awaited
      ≡ reply.Value (codes "tid2")
      ∷ reply.Posted 1
      ∷ reply.Event (event.Script 1 (codes "x") true false)
      ∷ reply.Served false
      ∷ reply.Refused []
      ∷ reply.Answer outcome
      ∷ reply.Refused []
      ∷ reply.Refused []
      ∷ []
  pub awaited_once :
      happenings main awaited
      ≡ Posted 1 1 2 Waiting false
      ∷ Began 1 2
      ∷ Finished 1 outcome
      ∷ Got 1 1 (reply.Answer outcome)
      ∷ []
