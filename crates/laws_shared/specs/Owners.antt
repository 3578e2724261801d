-- Whose channels are (chan(n); thread(n), thread::detach, thread::attach, thread::transfer).
use Rattle.std.specs.Prelude.{◌≡◌, ℕ, Bool, true, false, IsTrue, List, bytes_eq, Option, Some, None}
use Rattle.tt_calls.specs.declared.chan_call.ChanCall.{ChanCall}
use Rattle.tt_calls.specs.declared.chan_call.ChanCall.TheVariants as chan
use Rattle.tt_calls.specs.declared.request.Request.{Request}
use Rattle.tt_calls.specs.declared.request.Request.TheVariants as ask
use Rattle.tt_chans.specs.Channels.{ChannelTable, channel_of}
use Rattle.tt_chans.specs.declared.channel.Channel.{Channel}
use Rattle.tt_chans.specs.declared.channel.Owner.{Owner}
use Rattle.tt_chans.specs.declared.channel.Owner.TheVariants.{Thread}
use Rattle.laws_shared.specs.Actions.{Action}
use Rattle.tt_shared.specs.State.{State}

-- whose a channel is; it has one owner, and none if it was closed or never made
abbrev pub owner_in : Option Channel → Option Owner
owner_in None = None
owner_in (Some channel) = Some channel.owner

abbrev pub owner_at : ChannelTable → (text : List ℕ) → Option Owner
owner_at table text = owner_in (channel_of table text)

-- the thread owns the channel
abbrev pub OwnsChannel : State → ℕ → (text : List ℕ) → Type 0
OwnsChannel state t text = owner_at state.channels text ≡ Some (Thread t)

-- what only the owner may ask of a channel
abbrev pub asks_owner : ChanCall → Bool
asks_owner (chan.Put text bytes) = true
asks_owner (chan.GetLine text) = true
asks_owner (chan.Eof text) = true
asks_owner (chan.Close text) = true
asks_owner (chan.Detach text) = true
asks_owner (chan.Transfer thread text) = true
asks_owner call = false

-- what an owner gives a channel up by
abbrev pub gives_up : (text : List ℕ) → Request → Bool
gives_up text (ask.Chan (chan.Close channel)) = bytes_eq channel text
gives_up text (ask.Chan (chan.Detach channel)) = bytes_eq channel text
gives_up text (ask.Chan (chan.Transfer thread channel)) = bytes_eq channel text
gives_up text (ask.End code) = true
gives_up text request = false

pub record GivesUp (t : ℕ) (text : List ℕ) (action : Action) : Type 0 where
  pub thread : action.thread ≡ t
  pub gives : IsTrue (gives_up text action.request)
