-- Runs as examples, and what happens in them.
use Rattle.std.specs.Prelude.{◌≡◌, ℕ, false, true, List, [], ◌∷◌, codes, Some, None, pos}
use Rattle.tt_calls.specs.declared.chan_call.ChanCall.TheVariants as chan
use Rattle.tt_calls.specs.declared.lock_call.Family.TheVariants.{Mutex}
use Rattle.tt_calls.specs.declared.lock_call.Kind.TheVariants.{Recursive}
use Rattle.tt_calls.specs.declared.lock_call.LockCall.TheVariants as lock
use Rattle.tt_calls.specs.declared.outcome.Code.TheVariants.{Fine}
use Rattle.tt_calls.specs.declared.outcome.Outcome.{Outcome}
use Rattle.tt_calls.specs.declared.reply.Reply.TheVariants as reply
use Rattle.tt_calls.specs.declared.request.Mode.TheVariants.{Waits, Later}
use Rattle.tt_calls.specs.declared.request.Request.{Request}
use Rattle.tt_calls.specs.declared.request.Request.TheVariants as ask
use Rattle.tt_calls.specs.declared.start.Start.TheVariants.{Script}
use Rattle.tt_chans.specs.declared.channel.Owner.TheVariants.{Thread, Detached, Moving}
use Rattle.laws_shared.specs.Actions.{Action}
use Rattle.laws_shared.specs.Happenings.{Began, Died, Finished, Frees, Got, GetsHold, Nobody, Owner, Posted, Set}
use Rattle.laws_shared.specs.Happenings.{Variable, Waiting, happenings}
use Rattle.laws_shared.specs.Pipes.{bytes_put, bytes_taken}
use Rattle.tt_shared.specs.State.{State, start_state}
use Rattle.tt_shared.specs.declared.applied.Line.TheVariants.{NotRead}

-- main alone
abbrev pub main : State
main = start_state (Script [])

abbrev pub by : ℕ → Request → Action
by t request = record { thread = t; request = request; line = NotRead }

-- main makes a second thread
abbrev pub creation : Action
creation = by 1 (ask.Create false false [])

abbrev pub outcome : Outcome
outcome = record { code = Fine; value = codes "v"; trace = []; kept = Fine }

-- main sends a script and waits for its result; it sends another and asks for its result in a variable, but the thread
-- ends before
abbrev pub sends : List Action
sends =
    creation
    ∷ by 1 (ask.Send (codes "tid2") (codes "x") Later (Some (codes "r")) false)
    ∷ by 1 (ask.Send (codes "tid2") (codes "y") Waits None true)
    ∷ by 2 ask.Take
    ∷ by 2 (ask.Deliver 2 outcome)
    ∷ by 1 (ask.Await 2)
    ∷ by 1 (ask.Broadcast (codes "z"))
    ∷ by 2 (ask.End (pos 0))
    ∷ []

-- a mutex is taken twice and given up once; then another thread can't give it up
abbrev pub locks : List Action
locks =
    creation
    ∷ by 1 (ask.Lock (lock.Create Recursive))
    ∷ by 1 (ask.Lock (lock.Lock (codes "rid1")))
    ∷ by 1 (ask.Lock (lock.Lock (codes "rid1")))
    ∷ by 1 (ask.Lock (lock.Unlock Mutex (codes "rid1")))
    ∷ by 2 (ask.Lock (lock.Unlock Mutex (codes "rid1")))
    ∷ []

-- a pipe, of which the read end is sent to a thread, which detaches it after it has read a line
abbrev pub pipes : List Action
pipes =
    creation
    ∷ by 1 (ask.Chan chan.Pipe)
    ∷ by 1 (ask.Chan (chan.Put (codes "chan2") (codes "ab\ncd")))
    ∷ by 1 (ask.Chan (chan.Transfer (codes "tid2") (codes "chan1")))
    ∷ by 2 ask.Take
    ∷ by 2 (ask.Chan (chan.GetLine (codes "chan1")))
    ∷ by 2 (ask.Chan (chan.Detach (codes "chan1")))
    ∷ []

pub record WorkedHappenings : Type 0 where
  pub sent :
      happenings main sends
      ≡ Posted 1 1 2 Variable false
      ∷ Posted 2 1 2 Waiting true
      ∷ Began 2 2
      ∷ Finished 2 outcome
      ∷ Got 2 1 (reply.Answer outcome)
      ∷ Posted 3 1 2 Nobody false
      ∷ Died 1
      ∷ Set 1 1 (codes "target thread died")
      ∷ []
  pub locked :
      happenings main locks
      ≡ GetsHold (codes "rid1") 1
      ∷ GetsHold (codes "rid1") 1
      ∷ Frees (codes "rid1") 1
      ∷ []
  pub moved :
      happenings main pipes
      ≡ Owner (codes "chan1") (Thread 1)
      ∷ Owner (codes "chan2") (Thread 1)
      ∷ Owner (codes "chan1") (Moving (Some 1) 2)
      ∷ Owner (codes "chan1") (Thread 2)
      ∷ Owner (codes "chan1") Detached
      ∷ []
  pub put : bytes_put (codes "chan1") main pipes ≡ codes "ab\ncd"
  pub taken : bytes_taken (codes "chan1") main pipes ≡ codes "ab\n"
