-- What calls make of the channels: nothing, another end, an end less, or a pipe more.
use Rattle.std.proofs.Common.{◌≡◌, ◌==◌, ℕ, Bool, true, false, if◌then◌else◌, List, [], Option, Some, None, refl}
use Rattle.tt_calls.specs.declared.chan_call.ChanCall.{ChanCall}
use Rattle.tt_calls.specs.declared.chan_call.ChanCall.TheVariants as chan
use Rattle.tt_calls.specs.declared.reply.Reply.TheVariants.{Go, Value}
use Rattle.tt_calls.specs.Replies.{answers, refuses, Answered}
use Rattle.tt_chans.specs.Calls.{act_own, attaches, eof, gets, id_of, if_owned, transfer_end as move_ends, puts, puts_at}
use Rattle.tt_chans.specs.Calls.{standard_message, table_after, transfers, waits}
use Rattle.tt_chans.specs.Channels.{ChannelTable, channel_of, is_standard, with_channel, with_pipe, without_channel}
use Rattle.tt_chans.specs.Ends.{gets_line, own_channel, puts_into, takes_line, with_owner}
use Rattle.tt_chans.specs.Lines.{has_line}
use Rattle.tt_chans.specs.declared.channel.Channel.{Channel}
use Rattle.tt_chans.specs.declared.channel.End.{End}
use Rattle.tt_chans.specs.declared.channel.End.TheVariants.{Reads, Writes}
use Rattle.tt_chans.specs.declared.channel.Owner.{Owner}
use Rattle.tt_chans.specs.declared.channel.Owner.TheVariants.{Thread, Detached, Moving}
use Rattle.laws_shared.proofs.Channels.{IsFound, owned_is}

-- the calls that move bytes
abbrev pub moves_bytes : ChanCall → Bool
moves_bytes (chan.Put text bytes) = true
moves_bytes (chan.GetLine text) = true
moves_bytes call = false

-- how a call changes an end: its bytes, or its owner
pub data Changes (t : ℕ) (target : Option ℕ) (call : ChanCall) (text : List ℕ) (old new : Channel) : Type 0 where
  speaks : moves_bytes call ≡ true → new.owner ≡ old.owner → Changes t target call text old new
  detached : call ≡ chan.Detach text → old.owner ≡ Thread t → new ≡ with_owner old Detached → Changes t target call text old new
  moved : {thread : List ℕ} {to : ℕ} → call ≡ chan.Transfer thread text → target ≡ Some to → old.owner ≡ Thread t
      → new ≡ with_owner old (Moving (Some t) to) → Changes t target call text old new
  attached : call ≡ chan.Attach text → old.owner ≡ Detached → new ≡ with_owner old (Thread t) → Changes t target call text old new

puts_owner : (reader : Channel) (bytes : List ℕ) (end : End) → (puts_into reader bytes end).channel.owner ≡ reader.owner
puts_owner reader bytes (Reads before ended) = refl
puts_owner reader bytes Writes = refl

line_owner : (channel : Channel) (text : List ℕ) (end : End) → (gets_line channel text end).channel.owner ≡ channel.owner
line_owner channel text Writes = refl
line_owner channel text (Reads bytes ended) = go (has_line bytes) refl
  where
    go : (b : Bool) → has_line bytes ≡ b → (takes_line channel bytes ended).channel.owner ≡ channel.owner
    go true is = rw is refl
    go false is = rw is refl

-- what a call does to an end that is found
abbrev pub Sets : (P : ChannelTable → Type 0) → ChannelTable → (t : ℕ) → (target : Option ℕ) → ChanCall → Type 0
Sets P table t target call =
    (text : List ℕ) (old new : Channel) → channel_of table text ≡ Some old → Changes t target call text old new → P (with_channel table text new)

-- what closing an end does
abbrev pub Removes : (P : ChannelTable → Type 0) → ChannelTable → (t : ℕ) → ChanCall → Type 0
Removes P table t call = (text : List ℕ) (old : Channel) → call ≡ chan.Close text → IsFound t (channel_of table text) old → P (without_channel table text)

module _ (P : ChannelTable → Type 0) (table : ChannelTable) (t : ℕ) (target : Option ℕ) (same : P table) where
  if_found : (does : Channel → Answered ChannelTable) (text : List ℕ) →
      ((channel : Channel) → IsFound t (channel_of table text) channel → P (does channel).table) → P (if_owned does table t text).table
  if_found does text found = go (own_channel t (channel_of table text)) refl
    where
      go : (one : Option Channel) → own_channel t (channel_of table text) ≡ one → P (if_owned does table t text).table
      go None is = rw (is, if_owned) same
      go (Some channel) is = rw (is, if_owned) (found channel (owned_is t (channel_of table text) channel is))

  by_reader : (text other bytes : List ℕ) (found : Option Channel) → channel_of table other ≡ found → Sets P table t target (chan.Put text bytes) →
      P (puts_at table other bytes found).table
  by_reader text other bytes None is sets = same
  by_reader text other bytes (Some reader) is sets =
      sets other reader (puts_into reader bytes reader.end).channel is (speaks refl (puts_owner reader bytes reader.end))

  by_put : (text bytes : List ℕ) (channel : Channel) → Sets P table t target (chan.Put text bytes) → P (puts table text bytes channel).table
  by_put text bytes channel sets = go channel.end refl
    where
      go : (end : End) → channel.end ≡ end → P (puts table text bytes channel).table
      go Writes is = rw (is, puts) (by_reader text channel.other bytes (channel_of table channel.other) refl sets)
      go (Reads before ended) is = rw (is, puts) same

  by_attach : (text : List ℕ) (found : Option Channel) → channel_of table text ≡ found → Sets P table t target (chan.Attach text) →
      P (attaches table t text found).table
  by_attach text None is sets = same
  by_attach text (Some channel) is sets = go channel.owner refl
    where
      go : (owner : Owner) → channel.owner ≡ owner → P (attaches table t text (Some channel)).table
      go Detached whose = rw (whose, attaches) (sets text channel (with_owner channel (Thread t)) is (attached refl whose refl))
      go (Thread thread) whose = rw (whose, attaches) same
      go (Moving from to) whose = rw (whose, attaches) same

  by_transfer : (thread text : List ℕ) (to : Option ℕ) (channel : Channel) → target ≡ to → IsFound t (channel_of table text) channel →
      Sets P table t target (chan.Transfer thread text) → P (transfers table t thread text to channel).table
  by_transfer thread text None channel is found sets = same
  by_transfer thread text (Some to) channel is found sets = go (to == t)
    where
      go : (b : Bool) → P (if b then answers table (Value []) else answers (with_channel table text (with_owner channel (Moving (Some t) to))) Go).table
      go true = same
      go false = sets text channel (with_owner channel (Moving (Some t) to)) found.there (moved refl is found.owner refl)

  by_own : (call : ChanCall) → Sets P table t target call → Removes P table t call → (call ≡ chan.Pipe → P (with_pipe table t)) →
      P (act_own table t target call).table
  by_own chan.Pipe sets removes makes = makes refl
  by_own (chan.Put text bytes) sets removes makes = if_found (puts table text bytes) text (λ channel found. by_put text bytes channel sets)
  by_own (chan.GetLine text) sets removes makes =
      if_found (gets table text) text
      (λ channel found. sets text channel (gets_line channel text channel.end).channel found.there (speaks refl (line_owner channel text channel.end)))
  by_own (chan.Eof text) sets removes makes = if_found (eof table) text (λ channel found. same)
  by_own (chan.Close text) sets removes makes = if_found _ text (λ channel found. removes text channel refl found)
  by_own (chan.Detach text) sets removes makes =
      if_found _ text (λ channel found. sets text channel (with_owner channel Detached) found.there (detached refl found.owner refl))
  by_own (chan.Attach text) sets removes makes = by_attach text (channel_of table text) refl sets
  by_own (chan.Transfer thread text) sets removes makes =
      if_found (transfers table t thread text target) text (λ channel found. by_transfer thread text target channel refl found sets)
  by_own (chan.AwaitMove text) sets removes makes = go (channel_of table text)
    where
      go : (found : Option Channel) → P (move_ends table t found).table
      go None = same
      go (Some channel) = same

  pub by_call : (call : ChanCall) → Sets P table t target call → Removes P table t call → (call ≡ chan.Pipe → P (with_pipe table t)) →
      P (table_after table t target call)
  by_call call sets removes makes = either (waits table t call) (is_standard (id_of call))
    where
      if_standard : (b : Bool) → P (if b then refuses table (standard_message (id_of call) call) else act_own table t target call).table
      if_standard true = same
      if_standard false = by_own call sets removes makes

      either : (waiting standard : Bool) →
          P (if waiting then table else (if standard then refuses table (standard_message (id_of call) call) else act_own table t target call).table)
      either true standard = same
      either false standard = if_standard standard
