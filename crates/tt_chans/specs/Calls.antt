-- What calls on channels do, and when they wait: a case each (puts(n), gets(n), eof(n), close(n), chan(n), thread(n),
-- thread::detach, thread::attach, thread::transfer).
use Rattle.std.specs.Prelude.{ℕ, Bool, false, ◌&&◌, ◌==◌, not, List, [], ◌∷◌, ◌++◌, codes, Option, Some, None, is_some}
use Rattle.std.specs.Prelude.{if◌then◌else◌}
use Rattle.tt_calls.specs.Replies as replies
use Rattle.tt_calls.specs.Replies.{Answered, answers, refuses}
use Rattle.tt_calls.specs.declared.chan_call.ChanCall.{ChanCall}
use Rattle.tt_calls.specs.declared.chan_call.ChanCall.TheVariants as ask
use Rattle.tt_calls.specs.declared.reply.Reply.TheVariants.{Go, Value, Died}
use Rattle.tt_calls.specs.declared.reply.Step.{Step}
use Rattle.tt_chans.specs.Channels.{ChannelTable, channel_of, is_standard, read_id, with_channel, with_pipe}
use Rattle.tt_chans.specs.Channels.{without_channel, write_id}
use Rattle.tt_chans.specs.Ends.{Taken, gets_line, is_owned, moves_from, of_channel, own_channel, puts_into, with_owner}
use Rattle.tt_chans.specs.Lines.{has_line}
use Rattle.tt_chans.specs.declared.channel.Channel.{Channel}
use Rattle.tt_chans.specs.declared.channel.End.{End}
use Rattle.tt_chans.specs.declared.channel.End.TheVariants.{Reads, Writes}
use Rattle.tt_chans.specs.declared.channel.Owner.{Owner}
use Rattle.tt_chans.specs.declared.channel.Owner.TheVariants.{Thread, Detached, Moving}

-- ---- when a thread waits ----

-- the other end of a channel was not closed
abbrev pub is_joined : ChannelTable → Channel → Bool
is_joined table channel = is_some (channel_of table channel.other)

-- a read end has no line, and more may come
abbrev pub lacks_line : ChannelTable → Channel → End → Bool
lacks_line table channel (Reads bytes ended) = not (has_line bytes) && is_joined table channel
lacks_line table channel Writes = false

abbrev pub waits_for_line : ChannelTable → Option Channel → Bool
waits_for_line table None = false
waits_for_line table (Some channel) = lacks_line table channel channel.end

abbrev pub waits_for_move : ℕ → Option Channel → Bool
waits_for_move t None = false
waits_for_move t (Some channel) = moves_from channel.owner t

abbrev pub waits : ChannelTable → ℕ → ChanCall → Bool
waits table t (ask.GetLine text) = waits_for_line table (own_channel t (channel_of table text))
waits table t (ask.AwaitMove text) = waits_for_move t (channel_of table text)
waits table t call = false

-- ---- what a call does ----

-- a message with an id in it
abbrev pub id_message : (before text after : List ℕ) → List ℕ
id_message before text after = before ++ (text ++ after)

-- a channel that the thread does not own is none to it
abbrev pub no_channel : List ℕ → List ℕ
no_channel text = id_message (codes "can not find channel named \"") text (codes "\"")

abbrev pub not_found : ChannelTable → List ℕ → Answered ChannelTable
not_found table text = refuses table (no_channel text)

-- what is done to a channel that the thread owns
abbrev pub if_owned :
    (Channel → Answered ChannelTable) → ChannelTable → ℕ → List ℕ → Answered ChannelTable
if_owned does table t text =
    elim (own_channel t (channel_of table text)) [ None ↦ not_found table text | Some channel ↦ does channel ]

-- the channel of an id after a call on it
abbrev pub took : ChannelTable → List ℕ → Taken → Answered ChannelTable
took table text taken = answers (with_channel table text taken.channel) taken.reply

-- puts: into the read end, if that was not closed
abbrev pub puts_at : ChannelTable → (other bytes : List ℕ) → Option Channel → Answered ChannelTable
puts_at table other bytes None = refuses table (codes "broken pipe")
puts_at table other bytes (Some reader) = took table other (puts_into reader bytes reader.end)

abbrev pub puts_other : ChannelTable → (other bytes : List ℕ) → Answered ChannelTable
puts_other table other bytes = puts_at table other bytes (channel_of table other)

abbrev pub puts : ChannelTable → (text bytes : List ℕ) → Channel → Answered ChannelTable
puts table text bytes channel =
    elim channel.end [
      | Writes ↦ puts_other table channel.other bytes
      | Reads before ended ↦ refuses table (of_channel text (codes "\" wasn't opened for writing"))
    ]

abbrev pub puts_named : ChannelTable → ℕ → (text bytes : List ℕ) → Answered ChannelTable
puts_named table t text bytes = if_owned (puts table text bytes) table t text

-- gets
abbrev pub gets : ChannelTable → List ℕ → Channel → Answered ChannelTable
gets table text channel = took table text (gets_line channel text channel.end)

abbrev pub gets_named : ChannelTable → ℕ → List ℕ → Answered ChannelTable
gets_named table t text = if_owned (gets table text) table t text

-- eof: whether the end was met
abbrev pub is_at_end : End → Bool
is_at_end (Reads bytes ended) = ended
is_at_end Writes = false

abbrev pub eof : ChannelTable → Channel → Answered ChannelTable
eof table channel = answers table (Value (if is_at_end channel.end then codes "1" else codes "0"))

-- close
abbrev pub closes : ChannelTable → ℕ → List ℕ → Answered ChannelTable
closes table t text = if_owned (λ channel. answers (without_channel table text) Go) table t text

-- a channel under its id, with another owner
abbrev pub table_with_owner : ChannelTable → List ℕ → Owner → Option Channel → ChannelTable
table_with_owner table text owner None = table
table_with_owner table text owner (Some channel) = with_channel table text (with_owner channel owner)

-- thread::detach
abbrev pub detaches : ChannelTable → ℕ → List ℕ → Answered ChannelTable
detaches table t text =
    if_owned (λ channel. answers (table_with_owner table text Detached (Some channel)) Go) table t text

-- thread::attach: of a channel that nobody owns
abbrev pub not_detached : ChannelTable → List ℕ → Answered ChannelTable
not_detached table text = refuses table (of_channel text (codes "\" is not detached"))

abbrev pub attaches : ChannelTable → ℕ → List ℕ → Option Channel → Answered ChannelTable
attaches table t text None = not_detached table text
attaches table t text (Some channel) =
    elim channel.owner [
      | Detached ↦ answers (with_channel table text (with_owner channel (Thread t))) Go
      | owner ↦ not_detached table text
    ]

abbrev pub attaches_named : ChannelTable → ℕ → List ℕ → Answered ChannelTable
attaches_named table t text = attaches table t text (channel_of table text)

-- thread::transfer: to oneself nothing changes; else the channel is on its way
abbrev pub transfers :
    ChannelTable → ℕ → (thread text : List ℕ) → (target : Option ℕ) → Channel → Answered ChannelTable
transfers table t thread text None channel =
    refuses table (id_message (codes "thread \"") thread (codes "\" does not exist"))
transfers table t thread text (Some target) channel =
    if target == t then answers table (Value []) else
    answers (with_channel table text (with_owner channel (Moving (Some t) target))) Go

abbrev pub transfers_named : ChannelTable → ℕ → (thread text : List ℕ) → (target : Option ℕ) → Answered ChannelTable
transfers_named table t thread text target = if_owned (transfers table t thread text target) table t text

-- the end of that wait: if the target ended first, the sender owns the channel again
abbrev pub transfer_end : ChannelTable → ℕ → Option Channel → Answered ChannelTable
transfer_end table t None = answers table Go
transfer_end table t (Some channel) = answers table (if is_owned channel.owner t then Died else Go)

-- the channels that belong to every thread
abbrev pub standard_message : List ℕ → ChanCall → List ℕ
standard_message text (ask.Close chan) = of_channel text (codes "\" stays open")
standard_message text (ask.Detach chan) = of_channel text (codes "\" belongs to every thread")
standard_message text (ask.Attach chan) = of_channel text (codes "\" belongs to every thread")
standard_message text (ask.Transfer thread chan) = of_channel text (codes "\" belongs to every thread")
standard_message text call = []

-- the others
abbrev pub act_own : ChannelTable → ℕ → (target : Option ℕ) → ChanCall → Answered ChannelTable
act_own table t target ask.Pipe = answers (with_pipe table t) (Value (read_id table ++ 32 ∷ write_id table))
act_own table t target (ask.Put text bytes) = puts_named table t text bytes
act_own table t target (ask.GetLine text) = gets_named table t text
act_own table t target (ask.Eof text) = if_owned (eof table) table t text
act_own table t target (ask.Close text) = closes table t text
act_own table t target (ask.Detach text) = detaches table t text
act_own table t target (ask.Attach text) = attaches_named table t text
act_own table t target (ask.Transfer thread text) = transfers_named table t thread text target
act_own table t target (ask.AwaitMove text) = transfer_end table t (channel_of table text)

-- the id that a call names
abbrev pub id_of : ChanCall → List ℕ
id_of ask.Pipe = []
id_of (ask.Put text bytes) = text
id_of (ask.GetLine text) = text
id_of (ask.Eof text) = text
id_of (ask.Close text) = text
id_of (ask.Detach text) = text
id_of (ask.Attach text) = text
id_of (ask.Transfer thread text) = text
id_of (ask.AwaitMove text) = text

abbrev pub act : ChannelTable → ℕ → (target : Option ℕ) → ChanCall → Answered ChannelTable
act table t target call =
    if is_standard (id_of call) then refuses table (standard_message (id_of call) call) else act_own table t target call

-- ---- a call whole ----

abbrev pub table_after : ChannelTable → ℕ → (target : Option ℕ) → ChanCall → ChannelTable
table_after table t target call = replies.table_after (waits table t call) table (act table t target call)

abbrev pub step_after : ChannelTable → ℕ → (target : Option ℕ) → ChanCall → Step
step_after table t target call = replies.step_after (waits table t call) (act table t target call)
