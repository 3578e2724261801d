-- What holds of each action of a run: how arrays, locks, channels and pipes are kept by it.
use Rattle.std.specs.Prelude.{◌≡◌, ℕ, Bool, true, IsTrue, IsFalse, List, [], ◌∷◌, Some}
use Rattle.std.specs.List.{Contains}
use Rattle.tt_calls.specs.declared.chan_call.ChanCall.{ChanCall}
use Rattle.tt_calls.specs.declared.request.Request.TheVariants as ask
use Rattle.tt_chans.specs.Calls.{id_of}
use Rattle.tt_chans.specs.Channels.{is_standard}
use Rattle.laws_shared.specs.Actions.{CanHappen, Moment, NumbersFit, Reached, after}
use Rattle.laws_shared.specs.Happenings.{Happening as happening, happenings_by}
use Rattle.laws_shared.specs.HeldArrays.{EndsHold, HoldsArray, IsOn}
use Rattle.laws_shared.specs.HeldLocks.{HoldsLock, hold_of}
use Rattle.laws_shared.specs.KeptChannels.{AreKept}
use Rattle.laws_shared.specs.SharedLaws.{ArraysStandAlone, IsNotFound, LocksHaveOneHolder}
use Rattle.laws_shared.specs.Owners.{GivesUp, OwnsChannel, asks_owner}
use Rattle.laws_shared.specs.Pipes.{Flows, bytes_at, action_puts, action_takes}
use Rattle.tt_shared.specs.State.{State}

-- the state after a moment's action
abbrev pub later : Moment → State
later moment = after moment.before moment.action

-- ---- shared variables ----

-- the array is what the call alone makes of it; one that is held is its holder's, until the end of the last hold
pub record KeepsArrays (moment : Moment) : Type 0 where
  pub alone : ArraysStandAlone moment.before (moment.action ∷ []) (later moment)
  pub others :
      (t : ℕ) (name : List ℕ) →
      HoldsArray moment.before t name →
      IsOn moment.action name →
      moment.action.thread ≡ t
  pub held :
      (t : ℕ) (name : List ℕ) →
      HoldsArray moment.before t name →
      ¬ (EndsHold t name moment) →
      HoldsArray (later moment) t name

-- ---- locks ----

-- a lock that is held alone has one holder; a hold that stays is as it was, and then nobody else got one beside it
pub record KeepsLocks (moment : Moment) : Type 0 where
  pub one : LocksHaveOneHolder (later moment)
  pub holds :
      (t : ℕ) (text : List ℕ) (alone : Bool) →
      hold_of moment.before t text ≡ Some alone →
      HoldsLock (later moment) t text →
      hold_of (later moment) t text ≡ Some alone
  pub none :
      (t other : ℕ) (text : List ℕ) →
      hold_of (later moment) t text ≡ Some true →
      Contains (happenings_by moment) (happening.GetsHold text other) →
      other ≡ t

-- ---- channels ----

-- A channel answers its owner, who owns it until it gives it up; of the bytes of a pipe none is lost; and a channel
-- that is not closed is owned by a thread that lives, or nobody's, or on its way to one that lives.
pub record KeepsChannels (moment : Moment) : Type 0 where
  pub refused :
      (call : ChanCall) →
      moment.action.request ≡ ask.Chan call →
      IsTrue (asks_owner call) →
      IsFalse (is_standard (id_of call)) →
      ¬ (OwnsChannel moment.before moment.action.thread (id_of call)) →
      IsNotFound moment.before moment.action.thread call moment.action.line
  pub owned :
      (t : ℕ) (text : List ℕ) →
      OwnsChannel moment.before t text →
      ¬ (GivesUp t text moment.action) →
      OwnsChannel (later moment) t text
  pub flows :
      (id : List ℕ) →
      Flows
      (bytes_at moment.before.channels id)
      (bytes_at (later moment).channels id)
      (action_puts id moment)
      (action_takes id moment)
  pub kept : AreKept (later moment)

-- ---- an action ----

pub record IsOrderly (moment : Moment) : Type 0 where
  pub arrays : KeepsArrays moment
  pub locks : KeepsLocks moment
  pub channels : KeepsChannels moment

-- each action of a run is orderly
abbrev pub OrderlyLaw : Type 0
OrderlyLaw =
    (moment : Moment) →
    Reached moment.before →
    CanHappen moment.before moment.action →
    NumbersFit (later moment) →
    IsOrderly moment
