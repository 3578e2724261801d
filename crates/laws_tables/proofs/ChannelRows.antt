-- What calls on channels are answered: a property of replies holds of each row's.
use Rattle.std.proofs.Common.{◌≡◌, ◌==◌, ℕ, Bool, true, false, if◌then◌else◌, List, [], ◌∷◌, Option, Some, None, refl}
use Rattle.laws_tables.proofs.Cases.{Empty, Refuses, Values, by_if}
use Rattle.tt_calls.specs.Replies.{Answered, refuses as refusal}
use Rattle.tt_calls.specs.declared.chan_call.ChanCall.{ChanCall}
use Rattle.tt_calls.specs.declared.reply.Reply.{Reply}
use Rattle.tt_calls.specs.declared.reply.Reply.TheVariants as reply
use Rattle.tt_chans.specs.Calls as channels
use Rattle.tt_chans.specs.Channels.{ChannelTable, channel_of, is_standard}
use Rattle.tt_chans.specs.Ends as ends
use Rattle.tt_chans.specs.Lines.{has_line}
use Rattle.tt_chans.specs.declared.channel.Channel.{Channel}
use Rattle.tt_chans.specs.declared.channel.End.{End}
use Rattle.tt_chans.specs.declared.channel.End.TheVariants.{Reads, Writes}
use Rattle.tt_chans.specs.declared.channel.Owner.{Owner}
use Rattle.tt_chans.specs.declared.channel.Owner.TheVariants.{Thread, Detached, Moving}

module _ (P : Reply → Type 0) (table : ChannelTable) (t : ℕ) (target : Option ℕ) where
  abbrev pub Tells : Answered ChannelTable → Type 0
  Tells answered = P answered.reply

  -- the ids of the standard channels, and the others
  pub by_id : (call : ChanCall) → (is_standard (channels.id_of call) ≡ true → P (reply.Refused (channels.standard_message (channels.id_of call) call)))
      → (is_standard (channels.id_of call) ≡ false → Tells (channels.act_own table t target call)) → Tells (channels.act table t target call)
  by_id call standard own = go (is_standard (channels.id_of call)) refl
    where
      go : (b : Bool) → is_standard (channels.id_of call) ≡ b
          → Tells (if b then refusal table (channels.standard_message (channels.id_of call) call) else channels.act_own table t target call)
      go true is = standard is
      go false is = own is

  module _ (refuses : Refuses P) where
    by_owned : (does : Channel → Answered ChannelTable) (text : List ℕ) →
        ((channel : Channel) → ends.own_channel t (channel_of table text) ≡ Some channel → Tells (does channel))
        → Tells (channels.if_owned does table t text)
    by_owned does text each = go (ends.own_channel t (channel_of table text)) refl
      where
        go : (found : Option Channel) → ends.own_channel t (channel_of table text) ≡ found → Tells (channels.if_owned does table t text)
        go None is = rw (is, channels.if_owned) (refuses _ _)
        go (Some channel) is = rw (is, channels.if_owned) (each channel is)

    -- puts: the empty text is for a write end whose other end is one too
    pub by_puts : (text bytes : List ℕ) → P reply.Go
        → ((channel reader : Channel) → ends.own_channel t (channel_of table text) ≡ Some channel → channel.end ≡ Writes
        → channel_of table channel.other ≡ Some reader → reader.end ≡ Writes → Empty P)
        → Tells (channels.puts_named table t text bytes)
    by_puts text bytes goes none = by_owned (channels.puts table text bytes) text each
      where
        each : (channel : Channel) → ends.own_channel t (channel_of table text) ≡ Some channel → Tells (channels.puts table text bytes channel)
        each channel mine = go channel.end refl
          where
            into : (reader : Channel) → channel.end ≡ Writes → channel_of table channel.other ≡ Some reader → (end : End) → reader.end ≡ end →
                P (ends.puts_into reader bytes end).reply
            into reader writes there (Reads before ended) is = goes
            into reader writes there Writes is = none channel reader mine writes there is

            found : channel.end ≡ Writes → (other : Option Channel) → channel_of table channel.other ≡ other
                → Tells (channels.puts_at table channel.other bytes other)
            found writes None there = refuses _ _
            found writes (Some reader) there = into reader writes there reader.end refl

            go : (end : End) → channel.end ≡ end → Tells (channels.puts table text bytes channel)
            go Writes is = rw (is, channels.puts) (found is (channel_of table channel.other) refl)
            go (Reads before ended) is = rw (is, channels.puts) (refuses _ _)

    pub by_gets : (text : List ℕ) → ((line : List ℕ) → P (reply.Line line)) → P reply.LineEnd → Tells (channels.gets_named table t text)
    by_gets text lines ended = by_owned (channels.gets table text) text (λ channel mine. taken channel channel.end)
      where
        rest : (bytes : List ℕ) → P (ends.rest_reply bytes)
        rest [] = ended
        rest (b ∷ bytes) = lines _

        taken : (channel : Channel) (end : End) → P (ends.gets_line channel text end).reply
        taken channel Writes = refuses _ _
        taken channel (Reads bytes at_end) = by_if (λ (one : ends.Taken). P one.reply) (has_line bytes) _ _ (lines _) (rest bytes)

    pub by_eof : (text : List ℕ) → Values P → Tells (channels.if_owned (channels.eof table) table t text)
    by_eof text values = by_owned (channels.eof table) text (λ channel mine. values _)

    pub by_closes : (text : List ℕ) → P reply.Go → Tells (channels.closes table t text)
    by_closes text goes = by_owned _ text (λ channel mine. goes)

    pub by_detaches : (text : List ℕ) → P reply.Go → Tells (channels.detaches table t text)
    by_detaches text goes = by_owned _ text (λ channel mine. goes)

    pub by_attaches : (text : List ℕ) → P reply.Go → Tells (channels.attaches_named table t text)
    by_attaches text goes = found (channel_of table text)
      where
        found : (one : Option Channel) → Tells (channels.attaches table t text one)
        found None = refuses _ _
        found (Some channel) = go channel.owner refl
          where
            go : (owner : Owner) → channel.owner ≡ owner → Tells (channels.attaches table t text (Some channel))
            go Detached is = rw (is, channels.attaches) goes
            go (Thread thread) is = rw (is, channels.attaches) (refuses _ _)
            go (Moving from to) is = rw (is, channels.attaches) (refuses _ _)

    pub by_transfers : (thread text : List ℕ) → P reply.Go → Values P → Tells (channels.transfers_named table t thread text target)
    by_transfers thread text goes values = by_owned (channels.transfers table t thread text target) text (λ channel mine. go channel target)
      where
        go : (channel : Channel) (to : Option ℕ) → Tells (channels.transfers table t thread text to channel)
        go channel None = refuses _ _
        go channel (Some to) = by_if Tells (to == t) _ _ (values _) goes

  pub by_moves : (text : List ℕ) → P reply.Go → P reply.Died → Tells (channels.transfer_end table t (channel_of table text))
  by_moves text goes died = go (channel_of table text)
    where
      go : (found : Option Channel) → Tells (channels.transfer_end table t found)
      go None = goes
      go (Some channel) = by_if P (ends.is_owned channel.owner t) _ _ died goes
