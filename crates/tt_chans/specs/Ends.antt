-- One end of a pipe (chan(n), chan pipe).
use Rattle.std.specs.Prelude.{ℕ, Bool, true, false, ◌||◌, ◌==◌, not, List, [], ◌∷◌, ◌++◌, codes, Option, Some, None}
use Rattle.std.specs.Prelude.{if◌then◌else◌}
use Rattle.tt_calls.specs.declared.reply.Reply.{Reply}
use Rattle.tt_calls.specs.declared.reply.Reply.TheVariants.{Go, Line, LineEnd, Refused}
use Rattle.tt_chans.specs.Lines.{first_line, has_line, later_lines}
use Rattle.tt_chans.specs.declared.channel.Channel.{Channel}
use Rattle.tt_chans.specs.declared.channel.End.{End}
use Rattle.tt_chans.specs.declared.channel.End.TheVariants.{Reads, Writes}
use Rattle.tt_chans.specs.declared.channel.Owner.{Owner}
use Rattle.tt_chans.specs.declared.channel.Owner.TheVariants.{Thread, Detached, Moving}

-- a thread owns the channel
abbrev pub is_owned : Owner → ℕ → Bool
is_owned (Thread thread) t = thread == t
is_owned Detached t = false
is_owned (Moving from to) t = false

-- the channel is on its way from this thread
abbrev pub is_sender : Option ℕ → ℕ → Bool
is_sender None t = false
is_sender (Some thread) t = thread == t

abbrev pub moves_from : Owner → ℕ → Bool
moves_from (Moving from to) t = is_sender from t
moves_from owner t = false

abbrev pub with_owner : Channel → Owner → Channel
with_owner channel owner = record channel { owner = owner }

-- the channel that is found, if the thread owns it
abbrev pub own_channel : ℕ → Option Channel → Option Channel
own_channel t None = None
own_channel t (Some channel) = if is_owned channel.owner t then Some channel else None

-- a read end with these bytes, whose end was met or not
abbrev pub reads : Channel → (bytes : List ℕ) → Bool → Channel
reads channel bytes ended = record channel { end = Reads bytes ended }

-- ---- gets ----

-- the channel after a call, and the reply
pub record Taken : Type 0 where
  pub channel : Channel
  pub reply : Reply

-- the line up to the next newline, which is taken too; without one the rest, or that there is none, and then the end is
-- met
abbrev pub rest_reply : List ℕ → Reply
rest_reply [] = LineEnd
rest_reply (byte ∷ bytes) = Line (byte ∷ bytes)

abbrev pub takes_rest : Channel → List ℕ → Taken
takes_rest channel bytes = record { channel = reads channel [] true; reply = rest_reply bytes }

abbrev pub takes_line : Channel → (bytes : List ℕ) → (ended : Bool) → Taken
takes_line channel bytes ended =
    if has_line bytes
    then record { channel = reads channel (later_lines bytes) ended; reply = Line (first_line bytes) }
    else takes_rest channel bytes

-- a message about a channel
abbrev pub of_channel : List ℕ → (after : List ℕ) → List ℕ
of_channel text after = codes "channel \"" ++ (text ++ after)

abbrev pub gets_line : Channel → (text : List ℕ) → End → Taken
gets_line channel text Writes =
    record { channel = channel; reply = Refused (of_channel text (codes "\" wasn't opened for reading")) }
gets_line channel text (Reads bytes ended) = takes_line channel bytes ended

-- ---- puts ----

-- the bytes go to the end of what the read end has
abbrev pub puts_into : Channel → (bytes : List ℕ) → End → Taken
puts_into reader bytes (Reads before ended) = record { channel = reads reader (before ++ bytes) ended; reply = Go }
puts_into reader bytes Writes = record { channel = reader; reply = Refused [] }

-- ---- the end of a thread ----

-- a channel that it owns is closed, and so is one that is on its way to it from a thread that has ended too
abbrev pub is_sent : Option ℕ → Bool
is_sent None = false
is_sent (Some thread) = true

abbrev pub stays_open : ℕ → Channel → Bool
stays_open t channel =
    elim channel.owner [
      | Thread thread ↦ not (thread == t)
      | Detached ↦ true
      | Moving from to ↦ not (to == t) || is_sent from
    ]

-- one that is on its way to it goes back to its sender
abbrev pub back_to : Option ℕ → Owner
back_to None = Detached
back_to (Some thread) = Thread thread

-- one that is on its way from it has no sender any more
abbrev pub owner_without_sender : ℕ → (from : Option ℕ) → (to : ℕ) → Owner
owner_without_sender t from to = if is_sender from t then Moving None to else Moving from to

abbrev pub owner_after : ℕ → Owner → Owner
owner_after t (Thread thread) = Thread thread
owner_after t Detached = Detached
owner_after t (Moving from to) = if to == t then back_to from else owner_without_sender t from to

abbrev pub after_end : ℕ → Channel → Channel
after_end t channel = with_owner channel (owner_after t channel.owner)
