-- The thread without which a call on a channel does not go on (gets(n); thread(n), thread::transfer).
use Rattle.std.specs.Prelude.{ℕ, Option, Some, None, if◌then◌else◌}
use Rattle.tt_calls.specs.declared.chan_call.ChanCall.{ChanCall}
use Rattle.tt_calls.specs.declared.chan_call.ChanCall.TheVariants as ask
use Rattle.tt_chans.specs.Channels.{ChannelTable, channel_of}
use Rattle.tt_chans.specs.Ends.{is_sender}
use Rattle.tt_chans.specs.declared.channel.Channel.{Channel}
use Rattle.tt_chans.specs.declared.channel.End.TheVariants.{Reads, Writes}
use Rattle.tt_chans.specs.declared.channel.Owner.{Owner}
use Rattle.tt_chans.specs.declared.channel.Owner.TheVariants.{Thread, Moving}

-- the thread that owns a channel; none while nobody does, and while it is on its way
abbrev pub thread_of : Owner → Option ℕ
thread_of (Thread thread) = Some thread
thread_of owner = None

-- the thread to which this one moves a channel
abbrev pub move_target : ℕ → Owner → Option ℕ
move_target t (Moving from to) = if is_sender from t then Some to else None
move_target t owner = None

-- the thread that owns this channel, if there is one
abbrev pub owner_in : Option Channel → Option ℕ
owner_in None = None
owner_in (Some channel) = thread_of channel.owner

-- the owner of the write end of a channel's pipe, which is the channel itself or the other end; none if that was closed
abbrev pub writer : ChannelTable → Option Channel → Option ℕ
writer table None = None
writer table (Some channel) =
    elim channel.end [
      | Writes ↦ thread_of channel.owner
      | Reads bytes ended ↦ owner_in (channel_of table channel.other)
    ]

-- the thread to which this one moves the channel, if there is one
abbrev pub target_in : ℕ → Option Channel → Option ℕ
target_in t None = None
target_in t (Some channel) = move_target t channel.owner

-- for a line that may come, the owner of the pipe's write end; for a move, the thread that it goes to; for no other
-- call
abbrev pub blocker : ChannelTable → ℕ → ChanCall → Option ℕ
blocker table t (ask.GetLine text) = writer table (channel_of table text)
blocker table t (ask.AwaitMove text) = target_in t (channel_of table text)
blocker table t call = None
