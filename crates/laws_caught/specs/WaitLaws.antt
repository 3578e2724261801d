-- What others do leaves a thread waiting for another, whatever it waits by (thread(n), tsv(n), chan(n)).
use Rattle.std.specs.Prelude.{◌≢◌, ◌<◌, ◌^◌, ℕ, IsFalse, IsTrue, List}
use Rattle.std.specs.List.{Contains}
use Rattle.tt_calls.specs.declared.chan_call.ChanCall.TheVariants as chan
use Rattle.tt_calls.specs.declared.lock_call.Kind.{Kind}
use Rattle.tt_calls.specs.declared.lock_call.LockCall.{LockCall}
use Rattle.tt_calls.specs.declared.request.Request.{Request}
use Rattle.tt_calls.specs.declared.request.Request.TheVariants as ask
use Rattle.tt_calls.specs.declared.tsv_call.TsvCall.{TsvCall}
use Rattle.laws_shared.specs.Actions.{CanHappen, Moment, NumbersFit, Reached}
use Rattle.laws_shared.specs.Orderly.{later}
use Rattle.tt_locks.specs.Table.{number_of}
use Rattle.tt_shared.specs.Blocking.{waited_for}
use Rattle.tt_shared.specs.Enabled.{enabled}
use Rattle.tt_shared.specs.State.{State}
use Rattle.tt_threads.specs.Rows.{is_living}

-- a request of a thread can't be answered while another thread, which lives, does nothing
pub record WaitsOn (state : State) (t : ℕ) (request : Request) (u : ℕ) : Type 0 where
  pub lives : IsTrue (is_living state.rows t)
  pub not_enabled : IsFalse (enabled state t request)
  pub other_lives : IsTrue (is_living state.rows u)
  pub named : Contains (waited_for state t request) u

-- the numbers that channels and locks draw fit in 64 bits, as the program sees to
pub record AllFit (state : State) : Type 0 where
  pub channels : NumbersFit state
  pub locks : (kind : Kind) → number_of kind state.locks.next < 2 ^ 64

-- a request is so still after an action of a third thread
abbrev pub Stays : Request → Type 0
Stays request =
    (moment : Moment) (t u : ℕ) →
    Reached moment.before →
    CanHappen moment.before moment.action →
    AllFit (later moment) →
    moment.action.thread ≢ t →
    moment.action.thread ≢ u →
    WaitsOn moment.before t request u →
    WaitsOn (later moment) t request u

-- the wait for the end of a thread
abbrev pub EndWaitLaw : Type 0
EndWaitLaw = (thread : ℕ) → Stays (ask.AwaitEnd thread)

-- for an array that another thread holds
abbrev pub ArrayWaitLaw : Type 0
ArrayWaitLaw = (call : TsvCall) → Stays (ask.Tsv call)

-- for the answer to a send
abbrev pub AnswerWaitLaw : Type 0
AnswerWaitLaw = (n : ℕ) → Stays (ask.Await n)

-- for a channel that moves to another thread (thread::transfer)
abbrev pub MoveWaitLaw : Type 0
MoveWaitLaw = (text : List ℕ) → Stays (ask.Chan (chan.AwaitMove text))

-- for a lock that others hold
abbrev pub LockWaitLaw : Type 0
LockWaitLaw = (call : LockCall) → Stays (ask.Lock call)

-- for a line of a pipe (gets)
abbrev pub LineWaitLaw : Type 0
LineWaitLaw = (text : List ℕ) → Stays (ask.Chan (chan.GetLine text))
