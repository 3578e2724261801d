-- What holds of every list of actions of threads.
use Rattle.std.specs.Prelude.{◌≡◌, ◌≢◌, ℕ, Bool, true, IsTrue, IsFalse, List, ◌++◌, Some, IfSome, map}
use Rattle.std.specs.List.{All, Contains}
use Rattle.tt_calls.specs.declared.chan_call.ChanCall.{ChanCall}
use Rattle.tt_calls.specs.declared.reply.Step.TheVariants as step
use Rattle.tt_calls.specs.declared.request.Request.{Request}
use Rattle.tt_calls.specs.declared.request.Request.TheVariants as ask
use Rattle.tt_calls.specs.declared.start.Start.{Start}
use Rattle.tt_chans.specs.Calls.{id_of, no_channel}
use Rattle.tt_chans.specs.Channels.{is_standard}
use Rattle.laws_shared.specs.Actions.{Action, Acts, CanHappen, NumbersFit, Reached, after, moments}
use Rattle.laws_shared.specs.ArrayCalls.{array_calls, array_replies, array_steps, arrays_after}
use Rattle.laws_shared.specs.Happenings.{Happening as happening, happenings}
use Rattle.laws_shared.specs.HeldArrays.{EndsHold, HoldsArray, IsOn, array_named}
use Rattle.laws_shared.specs.HeldLocks.{HoldsLock, HoldsAlone, hold_of}
use Rattle.laws_shared.specs.KeptChannels.{AreKept}
use Rattle.laws_shared.specs.Owners.{GivesUp, OwnsChannel, asks_owner}
use Rattle.laws_shared.specs.Pipes.{bytes_at, bytes_put, bytes_taken}
use Rattle.tt_locks.specs.LockLaws.{HaveOneHolder}
use Rattle.tt_shared.specs.Acts.{act}
use Rattle.tt_shared.specs.Enabled.{enabled}
use Rattle.tt_shared.specs.State.{State, refuses, start_state}
use Rattle.tt_shared.specs.declared.applied.Line.{Line}

-- a run goes on by an action that can happen
abbrev pub GoesOnLaw : Type 0
GoesOnLaw =
    (state : State) (action : Action) → Reached state → CanHappen state action → Reached (after state action)

-- ---- shared variables ----

-- The arrays are what the calls on shared variables alone make of them, and each of these calls is answered what it is
-- alone: it never waits, and nothing else that threads do touches an array.
pub record ArraysStandAlone (old : State) (actions : List Action) (new : State) : Type 0 where
  pub arrays : new.arrays ≡ arrays_after old.arrays (array_calls actions)
  pub replies : map step.Reply (array_replies old actions) ≡ array_steps old.arrays (array_calls actions)

abbrev pub ArraysAloneLaw : Type 0
ArraysAloneLaw = (old new : State) (actions : List Action) → Acts old actions new → ArraysStandAlone old actions new

-- a thread that asks what is on an array waits while another holds it
abbrev pub OthersWaitLaw : Type 0
OthersWaitLaw =
    (state : State) (t other : ℕ) (name : List ℕ) (request : Request) →
    HoldsArray state t name →
    array_named request ≡ Some name →
    other ≢ t →
    IsFalse (enabled state other request)

-- From a hold of an array to the end of the last one, whatever threads do, what is done on the array is done by the
-- thread that holds it, and it goes on holding it.
pub record IsHeldAlone (old : State) (actions : List Action) (new : State) (t : ℕ) (name : List ℕ) : Type 0 where
  pub alone : All (λ moment. IsOn moment.action name → moment.action.thread ≡ t) (moments old actions)
  pub held : HoldsArray new t name

abbrev pub HeldAloneLaw : Type 0
HeldAloneLaw =
    (old new : State) (actions : List Action) (t : ℕ) (name : List ℕ) →
    Acts old actions new →
    HoldsArray old t name →
    All (λ moment. ¬ (EndsHold t name moment)) (moments old actions) →
    IsHeldAlone old actions new t name

-- ---- locks ----

-- A mutex that is held, or a lock that is written, has one holder: who else holds it is the same thread. So while a
-- thread reads, no other writes.
pub record LocksHaveOneHolder (state : State) : Type 0 where
  pub have : HaveOneHolder state.locks
  pub one : (t other : ℕ) (text : List ℕ) → HoldsAlone state t text → HoldsLock state other text → other ≡ t

abbrev pub OneHolderLaw : Type 0
OneHolderLaw = (state : State) → Reached state → LocksHaveOneHolder state

-- While a thread holds a lock, it holds it as it did: who reads it reads, and nobody writes. And of a lock that it
-- holds alone, no other thread gets a hold.
pub record HoldStays (old : State) (actions : List Action) (new : State) (t : ℕ) (text : List ℕ) (alone : Bool) :
    Type 0 where
  pub stays : hold_of new t text ≡ Some alone
  pub none :
      alone ≡ true →
      (other : ℕ) →
      Contains (happenings old actions) (happening.GetsHold text other) →
      other ≡ t

abbrev pub HoldStaysLaw : Type 0
HoldStaysLaw =
    (old new : State) (actions : List Action) (t : ℕ) (text : List ℕ) (alone : Bool) →
    Reached old →
    Acts old actions new →
    hold_of old t text ≡ Some alone →
    All (λ moment. HoldsLock (after moment.before moment.action) t text) (moments old actions) →
    HoldStays old actions new t text alone

-- ---- channels ----

-- what a thread asks of a channel that it does not own is refused at once, and changes nothing
pub record IsNotFound (state : State) (t : ℕ) (call : ChanCall) (line : Line) : Type 0 where
  pub enabled : IsTrue (enabled state t (ask.Chan call))
  pub refused : act state t (ask.Chan call) line ≡ refuses state (no_channel (id_of call))

abbrev pub NotOwnedLaw : Type 0
NotOwnedLaw =
    (state : State) (t : ℕ) (call : ChanCall) (line : Line) →
    IsTrue (asks_owner call) →
    IsFalse (is_standard (id_of call)) →
    ¬ (OwnsChannel state t (id_of call)) →
    IsNotFound state t call line

-- a thread owns a channel until it gives it up, whatever others do
abbrev pub StaysOwnLaw : Type 0
StaysOwnLaw =
    (old new : State) (actions : List Action) (t : ℕ) (text : List ℕ) →
    Reached old →
    Acts old actions new →
    NumbersFit new →
    OwnsChannel old t text →
    All (λ moment. ¬ (GivesUp t text moment.action)) (moments old actions) →
    OwnsChannel new t text

-- a channel that is not closed is owned by a thread that lives, or nobody's, or it is on its way to one that lives
abbrev pub ChannelsAreKeptLaw : Type 0
ChannelsAreKeptLaw = (state : State) → Reached state → NumbersFit state → AreKept state

-- ---- pipes ----

-- What was taken from a pipe, newlines included, is the front of what was put into it; the rest is what its read end
-- has, while that is open.
pub record IsPiped (main : Start) (actions : List Action) (state : State) (id : List ℕ) : Type 0 where
  pub rest : List ℕ
  pub front : bytes_put id (start_state main) actions ≡ bytes_taken id (start_state main) actions ++ rest
  pub left : IfSome (bytes_at state.channels id) (λ bytes. bytes ≡ rest)

abbrev pub PipeLaw : Type 0
PipeLaw =
    (main : Start) (actions : List Action) (state : State) (id : List ℕ) →
    Acts (start_state main) actions state →
    NumbersFit state →
    IsPiped main actions state id
