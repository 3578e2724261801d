-- All channels, by their ids (chan(n)).
use Rattle.std.specs.Prelude.{ℕ, ◌+◌, Bool, false, ◌||◌, List, [], codes, bytes_eq, map, ◌==◌, Option, Some, None}
use Rattle.std.specs.Prelude.{if◌then◌else◌}
use Rattle.std.specs.BTreeMap.{insert_entry, is_at}
use Rattle.std.specs.Cmp.Lexicographic.{slice_cmp}
use Rattle.std.specs.Map.{lookup, remove_entry, set_value}
use Rattle.std.specs.Ordering.{nat_cmp}
use Rattle.std.specs.List.{filter}
use Rattle.tt_chans.specs.Ends.{after_end, stays_open, with_owner}
use Rattle.tt_chans.specs.declared.channel.Channel.{Channel}
use Rattle.tt_chans.specs.declared.channel.End.TheVariants.{Reads, Writes}
use Rattle.tt_chans.specs.declared.channel.Owner.{Owner}
use Rattle.tt_chans.specs.declared.channel.Owner.TheVariants.{Thread, Moving}
use Rattle.tt_ids.specs.Ids.{id}
use Rattle.tt_ids.specs.declared.id.IdKind.TheVariants as kind

-- the channels by their ids, in the order of the ids' bytes, and the number that the next one draws
pub record ChannelTable : Type 0 where
  pub channels : List (List ℕ × Channel)
  pub next : ℕ

abbrev pub no_channels : ChannelTable
no_channels = record { channels = []; next = 1 }

-- an id's place in the order
abbrev pub is_id : List ℕ → List ℕ → Bool
is_id text = is_at (slice_cmp nat_cmp text)

-- the channel of an id; none if it was closed, or never made
abbrev pub channel_of : ChannelTable → List ℕ → Option Channel
channel_of table text = lookup (is_id text) table.channels

abbrev pub with_channel : ChannelTable → List ℕ → Channel → ChannelTable
with_channel table text channel = record table { channels = set_value (is_id text) table.channels channel }

abbrev pub without_channel : ChannelTable → List ℕ → ChannelTable
without_channel table text = record table { channels = remove_entry (is_id text) table.channels }

-- the channels that belong to every thread
abbrev pub is_standard : List ℕ → Bool
is_standard text = bytes_eq text (codes "stdin") || (bytes_eq text (codes "stdout") || bytes_eq text (codes "stderr"))

-- ---- a new pipe ----

-- its read end has the next number, and its write end the one after that
abbrev pub read_id : ChannelTable → List ℕ
read_id table = id kind.Channel table.next

abbrev pub write_id : ChannelTable → List ℕ
write_id table = id kind.Channel (table.next + 1)

abbrev pub read_end : ChannelTable → ℕ → Channel
read_end table t = record { other = write_id table; owner = Thread t; end = Reads [] false }

abbrev pub write_end : ChannelTable → ℕ → Channel
write_end table t = record { other = read_id table; owner = Thread t; end = Writes }

abbrev pub with_entry : List (List ℕ × Channel) → List ℕ → Channel → List (List ℕ × Channel)
with_entry channels text channel = insert_entry (slice_cmp nat_cmp) channels text channel

abbrev pub with_pipe : ChannelTable → ℕ → ChannelTable
with_pipe table t = record {
  channels = with_entry (with_entry table.channels (read_id table) (read_end table t)) (write_id table)
      (write_end table t);
  next = table.next + 2;
}

-- ---- the end of a thread ----

abbrev pub table_after_end : ChannelTable → ℕ → ChannelTable
table_after_end table t =
    let open_still = filter (λ entry. stays_open t entry.1) table.channels in
    record table { channels = map (λ entry. (entry.0, after_end t entry.1)) open_still }

-- ---- the end of a move ----

-- whose a channel is, once it has come to this thread
abbrev pub owner_given : ℕ → Owner → Owner
owner_given t (Moving from to) = if to == t then Thread t else Moving from to
owner_given t owner = owner

-- the channel has come to the thread, if it was on its way there
abbrev pub after_arrival : ChannelTable → ℕ → List ℕ → Option Channel → ChannelTable
after_arrival table t text None = table
after_arrival table t text (Some channel) =
    with_channel table text (with_owner channel (owner_given t channel.owner))
