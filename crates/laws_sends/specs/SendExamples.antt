-- Runs with sends as examples, and what happens in them (thread(n)).
use Rattle.std.specs.Prelude.{◌≡◌, ℕ, true, false, List, [], ◌∷◌, codes, Some, None, pos, Bool}
use Rattle.laws_shared.specs.Actions.{Action}
use Rattle.laws_shared.specs.Example.{by, creation, main, outcome}
use Rattle.laws_shared.specs.Happenings.{Began, Died, Finished, Got, Nobody, Posted, Set, Variable, Waiting, happenings}
use Rattle.tt_calls.specs.declared.reply.Reply.TheVariants as reply
use Rattle.tt_calls.specs.declared.request.Mode.TheVariants.{Waits, Later}
use Rattle.tt_calls.specs.declared.request.Request.TheVariants as ask

-- thread t sends thread 2 a script, and goes on, or waits for its result
abbrev pub posts : ℕ → (head : Bool) → Action
posts t head = by t (ask.Send (codes "tid2") (codes "x") Later None head)

abbrev pub waits : ℕ → Action
waits t = by t (ask.Send (codes "tid2") (codes "x") Waits None false)

-- two senders to one thread, one of them to the head of its queue
abbrev pub heads : List Action
heads =
    creation
    ∷ creation
    ∷ posts 1 false
    ∷ posts 3 true
    ∷ posts 1 false
    ∷ posts 3 true
    ∷ by 2 ask.Take
    ∷ by 2 ask.Take
    ∷ by 2 ask.Take
    ∷ by 2 ask.Take
    ∷ []

-- a thread ends with one script begun and two in its queue
abbrev pub left : List Action
left =
    creation
    ∷ creation
    ∷ by 1 (ask.Send (codes "tid2") (codes "x") Later (Some (codes "r")) false)
    ∷ waits 3
    ∷ posts 1 false
    ∷ by 2 ask.Take
    ∷ by 2 (ask.End (pos 0))
    ∷ by 3 (ask.Await 2)
    ∷ []

-- a thread serves three scripts, each inside the one before, and hands over what they came to from the last one on
abbrev pub nested : List Action
nested =
    creation
    ∷ creation
    ∷ creation
    ∷ waits 1
    ∷ by 2 ask.Take
    ∷ waits 3
    ∷ by 2 ask.Take
    ∷ waits 4
    ∷ by 2 ask.Take
    ∷ by 2 (ask.Deliver 3 outcome)
    ∷ by 2 (ask.Deliver 2 outcome)
    ∷ by 2 (ask.Deliver 1 outcome)
    ∷ by 1 (ask.Await 1)
    ∷ by 4 (ask.Await 3)
    ∷ by 3 (ask.Await 2)
    ∷ []

-- a broadcast between two sends
abbrev pub broadcast : List Action
broadcast =
    creation
    ∷ creation
    ∷ posts 1 false
    ∷ by 1 (ask.Broadcast (codes "y"))
    ∷ posts 1 false
    ∷ by 2 ask.Take
    ∷ by 2 ask.Take
    ∷ by 2 ask.Take
    ∷ []

pub record WorkedSends : Type 0 where
  pub in_order :
      happenings main heads
      ≡ Posted 1 1 2 Nobody false
      ∷ Posted 2 3 2 Nobody true
      ∷ Posted 3 1 2 Nobody false
      ∷ Posted 4 3 2 Nobody true
      ∷ Began 4 2
      ∷ Began 2 2
      ∷ Began 1 2
      ∷ Began 3 2
      ∷ []
  pub died :
      happenings main left
      ≡ Posted 1 1 2 Variable false
      ∷ Posted 2 3 2 Waiting false
      ∷ Posted 3 1 2 Nobody false
      ∷ Began 1 2
      ∷ Died 2
      ∷ Died 1
      ∷ Set 1 1 (codes "target thread died")
      ∷ Got 2 3 reply.Died
      ∷ []
  pub inside_out :
      happenings main nested
      ≡ Posted 1 1 2 Waiting false
      ∷ Began 1 2
      ∷ Posted 2 3 2 Waiting false
      ∷ Began 2 2
      ∷ Posted 3 4 2 Waiting false
      ∷ Began 3 2
      ∷ Finished 3 outcome
      ∷ Finished 2 outcome
      ∷ Finished 1 outcome
      ∷ Got 1 1 (reply.Answer outcome)
      ∷ Got 3 4 (reply.Answer outcome)
      ∷ Got 2 3 (reply.Answer outcome)
      ∷ []
  pub between :
      happenings main broadcast
      ≡ Posted 1 1 2 Nobody false
      ∷ Posted 2 1 2 Nobody false
      ∷ Posted 3 1 3 Nobody false
      ∷ Posted 4 1 2 Nobody false
      ∷ Began 1 2
      ∷ Began 2 2
      ∷ Began 4 2
      ∷ []
