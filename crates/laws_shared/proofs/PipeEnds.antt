-- The two ends of a pipe name each other: a pipe draws two numbers, the first for its read end.
use Rattle.std.proofs.Common.{◌≡◌, ◌∙◌, ◌+◌, ◌*◌, ◌<◌, ◌^◌, ℕ, Bool, true, false, if◌then◌else◌, List, [], ◌∷◌, Option, Some, None, IfSome}
use Rattle.std.proofs.Common.{ap, refl, sym, subst, arith}
use Rattle.std.specs.Map.{remove_entry}
use Rattle.laws_shared.proofs.Apart.{left, left-is, other_key, remove_here}
use Rattle.laws_shared.proofs.ChannelCalls.{Changes, attached, by_call, detached, moved, moves_bytes, speaks}
use Rattle.laws_shared.proofs.Channels.{by_action, owned_is}
use Rattle.laws_shared.proofs.Drawn.{IsDrawn, by_pipe, none_drawn, up_after, up_along}
use Rattle.laws_shared.proofs.Tables.{at, by_remove, by_set, is_key, same_key}
use Rattle.laws_shared.specs.Actions.{Action, Acts, NumbersFit, Reached, after, more, none}
use Rattle.tt_calls.specs.Replies.{Answered, refuses}
use Rattle.tt_calls.specs.declared.chan_call.ChanCall.{ChanCall}
use Rattle.tt_calls.specs.declared.chan_call.ChanCall.TheVariants as chan
use Rattle.tt_calls.specs.declared.request.Request.{Request}
use Rattle.tt_chans.specs.Calls.{act as answered, gets, if_owned, puts, puts_at, standard_message, table_after, waits}
use Rattle.tt_chans.specs.Channels.{ChannelTable, after_arrival, channel_of, is_standard, no_channels, owner_given, table_after_end, with_channel, with_pipe}
use Rattle.tt_chans.specs.Channels.{without_channel}
use Rattle.tt_chans.specs.Ends.{after_end, gets_line, own_channel, puts_into, stays_open, takes_line, with_owner}
use Rattle.tt_chans.specs.Lines.{has_line}
use Rattle.tt_chans.specs.declared.channel.Channel.{Channel}
use Rattle.tt_chans.specs.declared.channel.End.{End}
use Rattle.tt_chans.specs.declared.channel.End.TheVariants.{Reads, Writes}
use Rattle.tt_ids.proofs.CallerLemmas.{ids_differ}
use Rattle.tt_ids.specs.Ids.{id}
use Rattle.tt_ids.specs.declared.id.IdKind.TheVariants.{Channel as OfChannel}
use Rattle.tt_shared.specs.Acts.{act, target_of}
use Rattle.tt_shared.specs.State.{State, start_state}
use Rattle.tt_shared.specs.declared.applied.Line.{Line}

-- ---- ends, by their numbers ----

abbrev pub is_read : End → Bool
is_read (Reads bytes ended) = true
is_read Writes = false

-- the ids of an end and of the other end of its pipe, which is the pipe of this number
abbrev IsPart : (number : ℕ) → (text other : List ℕ) → (read : Bool) → Type 0
IsPart number text other true = (text ≡ id OfChannel (2 * number + 1)) × (other ≡ id OfChannel (2 * number + 2))
IsPart number text other false = (text ≡ id OfChannel (2 * number + 2)) × (other ≡ id OfChannel (2 * number + 1))

record IsEnd (next : ℕ) (text : List ℕ) (channel : Channel) : Type 0 where
  number : ℕ
  below : 2 * number + 2 < next
  part : IsPart number text channel.other (is_read channel.end)

abbrev AreEnds : ChannelTable → Type 0
AreEnds table = (text : List ℕ) → IfSome (channel_of table text) (IsEnd table.next text)

record ArePipes (table : ChannelTable) : Type 0 where
  count : ℕ
  next : table.next ≡ 2 * count + 1
  ends : AreEnds table

-- two channels that are the same end
record Alike (old new : Channel) : Type 0 where
  other : new.other ≡ old.other
  read : is_read new.end ≡ is_read old.end

alike_end : (next : ℕ) (text : List ℕ) (old new : Channel) → Alike old new → IsEnd next text old → IsEnd next text new
alike_end next text old new alike end = record {
  number = end.number;
  below = end.below;
  part = subst (λ read. IsPart end.number text new.other read) (sym alike.read)
      (subst (λ other. IsPart end.number text other (is_read old.end)) (sym alike.other) end.part);
}

-- ---- each change ----

module _ (table : ChannelTable) (pipes : ArePipes table) where
  abbrev Keeps : List ℕ → Option Channel → Type 0
  Keeps text found = IfSome found (IsEnd table.next text)

  by_channel : (text : List ℕ) (old new : Channel) → channel_of table text ≡ Some old → Alike old new → ArePipes (with_channel table text new)
  by_channel text old new there alike = record {
    count = pipes.count;
    next = pipes.next;
    ends = λ other. by_set (Keeps other) other text table.channels new
        (λ same had. alike_end table.next other old new alike (subst (Keeps other) there had)) (pipes.ends other);
  }

  by_close : (text : List ℕ) → IsDrawn table → ArePipes (without_channel table text)
  by_close text drawn = record { count = pipes.count; next = pipes.next; ends = λ other. go other (is_key text other) refl }
    where
      go : (other : List ℕ) (b : Bool) → is_key text other ≡ b → Keeps other (at other (remove_entry (is_key text) table.channels))
      go other true same =
          let gone : at other (remove_entry (is_key text) table.channels) ≡ None =
          subst (λ one. at one (remove_entry (is_key text) table.channels) ≡ None) (same_key text other same) (remove_here text table.channels drawn.apart) in
          subst (Keeps other) (sym gone) tt
      go other false same = by_remove (Keeps other) other text table.channels (other_key text other same) (pipes.ends other)

  by_end : (t : ℕ) → IsDrawn table → ArePipes (table_after_end table t)
  by_end t drawn = record {
    count = pipes.count;
    next = pipes.next;
    ends = λ text. subst (Keeps text) (sym (left-is (stays_open t) (after_end t) text table.channels drawn.apart))
        (go text (channel_of table text) (pipes.ends text));
  }
    where
      go : (text : List ℕ) (found : Option Channel) → Keeps text found → Keeps text (left (stays_open t) (after_end t) found)
      go text None is = tt
      go text (Some channel) is = either (stays_open t channel)
        where
          either : (b : Bool) → Keeps text (if b then Some (after_end t channel) else None)
          either true = alike_end table.next text channel (after_end t channel) (record { other = refl; read = refl }) is
          either false = tt

  later : (text : List ℕ) (found : Option Channel) → Keeps text found → IfSome found (IsEnd (table.next + 2) text)
  later text None is = tt
  later text (Some channel) is = record { number = is.number; below = omega (arith, is.below); part = is.part }

  by_new : (t : ℕ) → ArePipes (with_pipe table t)
  by_new t =
      let small : 2 * pipes.count + 2 < table.next + 2 = omega (arith, pipes.next) in
      let one : id OfChannel table.next ≡ id OfChannel (2 * pipes.count + 1) = ap (id OfChannel) pipes.next in
      let two : id OfChannel (table.next + 1) ≡ id OfChannel (2 * pipes.count + 2) = ap (id OfChannel) (omega (arith, pipes.next)) in
      record {
        count = pipes.count + 1;
        next = omega (arith, pipes.next);
        ends = λ text. by_pipe (λ found. IfSome found (IsEnd (table.next + 2) text)) table t text
            (λ same. record { number = pipes.count; below = small; part = (same ∙ one, two) })
            (λ same. record { number = pipes.count; below = small; part = (same ∙ two, one) })
            (later text (channel_of table text) (pipes.ends text));
      }

  by_come : (t : ℕ) (text : List ℕ) (found : Option Channel) → channel_of table text ≡ found → ArePipes (after_arrival table t text found)
  by_come t text None is = pipes
  by_come t text (Some channel) is =
      by_channel text channel (with_owner channel (owner_given t channel.owner)) is (record { other = refl; read = refl })

  -- ---- puts and gets ----

  by_owned : (t : ℕ) (does : Channel → Answered ChannelTable) (text : List ℕ)
      → ((channel : Channel) → channel_of table text ≡ Some channel → ArePipes (does channel).table) → ArePipes (if_owned does table t text).table
  by_owned t does text each = go (own_channel t (channel_of table text)) refl
    where
      go : (one : Option Channel) → own_channel t (channel_of table text) ≡ one → ArePipes (if_owned does table t text).table
      go None is = rw (is, if_owned) pipes
      go (Some channel) is = rw (is, if_owned) (each channel (owned_is t (channel_of table text) channel is).there)

  by_put : (t : ℕ) (text bytes : List ℕ) → ArePipes (if_owned (puts table text bytes) table t text).table
  by_put t text bytes = by_owned t (puts table text bytes) text (λ channel there. each channel)
    where
      into : (reader : Channel) (end : End) → reader.end ≡ end → Alike reader (puts_into reader bytes end).channel
      into reader (Reads before ended) is = record { other = refl; read = sym (ap is_read is) }
      into reader Writes is = record { other = refl; read = refl }

      found : (other : List ℕ) (one : Option Channel) → channel_of table other ≡ one → ArePipes (puts_at table other bytes one).table
      found other None is = pipes
      found other (Some reader) is = by_channel other reader (puts_into reader bytes reader.end).channel is (into reader reader.end refl)

      each : (channel : Channel) → ArePipes (puts table text bytes channel).table
      each channel = go channel.end refl
        where
          go : (end : End) → channel.end ≡ end → ArePipes (puts table text bytes channel).table
          go Writes is = rw (is, puts) (found channel.other (channel_of table channel.other) refl)
          go (Reads before ended) is = rw (is, puts) pipes

  by_get : (t : ℕ) (text : List ℕ) → ArePipes (if_owned (gets table text) table t text).table
  by_get t text =
      by_owned t (gets table text) text
      (λ channel there. by_channel text channel (gets_line channel text channel.end).channel there (taken channel channel.end refl))
    where
      taken : (channel : Channel) (end : End) → channel.end ≡ end → Alike channel (gets_line channel text end).channel
      taken channel Writes is = record { other = refl; read = refl }
      taken channel (Reads bytes ended) is = go (has_line bytes) refl
        where
          go : (b : Bool) → has_line bytes ≡ b → Alike channel (takes_line channel bytes ended).channel
          go true line = rw line (record { other = refl; read = sym (ap is_read is) })
          go false line = rw line (record { other = refl; read = sym (ap is_read is) })

  -- ---- calls ----

  by_standard : (b : Bool) (call : ChanCall) (text : List ℕ) (own : Answered ChannelTable) → ArePipes own.table →
      ArePipes (if b then refuses table (standard_message text call) else own).table
  by_standard true call text own is = pipes
  by_standard false call text own is = is

  by_wait : (b : Bool) (new : ChannelTable) → ArePipes new → ArePipes (if b then table else new)
  by_wait true new is = pipes
  by_wait false new is = is

  -- a change of a call that moves no bytes is one of owners
  same_end : (t : ℕ) (target : Option ℕ) (call : ChanCall) (text : List ℕ) (old new : Channel) → moves_bytes call ≡ false →
      Changes t target call text old new → Alike old new
  same_end t target call text old new quiet (speaks moves owner) = let both : true ≡ false = sym moves ∙ quiet in absurd (cc both)
  same_end t target call text old new quiet (detached asks mine is) = record { other = ap (λ one. one.other) is; read = ap (λ one. is_read one.end) is }
  same_end t target call text old new quiet (moved asks goes mine is) = record { other = ap (λ one. one.other) is; read = ap (λ one. is_read one.end) is }
  same_end t target call text old new quiet (attached asks nobody is) = record { other = ap (λ one. one.other) is; read = ap (λ one. is_read one.end) is }

  by_quiet : (t : ℕ) (target : Option ℕ) (call : ChanCall) → IsDrawn table → moves_bytes call ≡ false → ArePipes (table_after table t target call)
  by_quiet t target call drawn quiet =
      by_call ArePipes table t target pipes call
      (λ text old new there changes. by_channel text old new there (same_end t target call text old new quiet changes))
      (λ text old is found. by_close text drawn)
      (λ is. by_new t)

  by_calls : (t : ℕ) (target : Option ℕ) (call : ChanCall) → IsDrawn table → ArePipes (table_after table t target call)
  by_calls t target (chan.Put text bytes) drawn =
      by_standard (is_standard text) (chan.Put text bytes) text (if_owned (puts table text bytes) table t text) (by_put t text bytes)
  by_calls t target (chan.GetLine text) drawn =
      by_wait (waits table t (chan.GetLine text)) (answered table t target (chan.GetLine text)).table
      (by_standard (is_standard text) (chan.GetLine text) text (if_owned (gets table text) table t text) (by_get t text))
  by_calls t target call drawn = by_quiet t target call drawn refl

-- ---- runs ----

pipes_after : (state : State) (t : ℕ) (request : Request) (line : Line) → ArePipes state.channels → IsDrawn state.channels →
    ArePipes (act state t request line).state.channels
pipes_after state t request line pipes drawn =
    let table = state.channels in
    by_action ArePipes state t pipes (λ text. by_come table pipes t text (channel_of table text) refl) request line
    (λ call asks. by_calls table pipes t (target_of state call) call drawn)
    (λ code asks. by_end table pipes t drawn)

no_pipes : ArePipes no_channels
no_pipes = record { count = 0; next = refl; ends = λ text. tt }

along : (old new : State) (actions : List Action) → ArePipes old.channels → IsDrawn old.channels → Acts old actions new → NumbersFit new →
    ArePipes new.channels
along old new [] pipes drawn none small = pipes
along old new (action ∷ actions) pipes drawn (more can rest) small =
    let next = after old action in
    let fits : next.channels.next < 2 ^ 64 = omega (arith, small, (up_along next new actions rest).up) in
    along next new actions (pipes_after old action.thread action.request action.line pipes drawn)
    ((up_after old action.thread action.request action.line).drawn fits drawn) rest small

reached_pipes : (state : State) → Reached state → NumbersFit state → ArePipes state.channels
reached_pipes state reached small = along (start_state reached.main) state reached.actions no_pipes none_drawn reached.acts small

-- a write end that puts into a read end is the one that the read end names
pub one_writer : (state : State) → Reached state → NumbersFit state → (text other : List ℕ) (reader writer : Channel) (bytes : List ℕ) (ended : Bool)
    → channel_of state.channels text ≡ Some reader → reader.end ≡ Reads bytes ended → channel_of state.channels other ≡ Some writer
    → writer.end ≡ Writes → writer.other ≡ text → other ≡ reader.other
one_writer state reached small text other reader writer bytes ended there reads found writes names =
    let pipes = reached_pipes state reached small in
    let table = state.channels in
    let one : IsEnd table.next text reader = subst (λ found. IfSome found (IsEnd table.next text)) there (pipes.ends text) in
    let two : IsEnd table.next other writer = subst (λ found. IfSome found (IsEnd table.next other)) found (pipes.ends other) in
    let first : IsPart one.number text reader.other true = subst (λ end. IsPart one.number text reader.other (is_read end)) reads one.part in
    let second : IsPart two.number other writer.other false = subst (λ end. IsPart two.number other writer.other (is_read end)) writes two.part in
    let below_one = one.below in
    let below_two = two.below in
    let alike : id OfChannel (2 * one.number + 1) ≡ id OfChannel (2 * two.number + 1) = sym first.0 ∙ sym names ∙ second.1 in
    let numbers : 2 * one.number + 1 ≡ 2 * two.number + 1 =
    ids_differ OfChannel (2 * one.number + 1) (2 * two.number + 1) (omega (arith, below_one, small)) (omega (arith, below_two, small)) alike in
    let next : 2 * two.number + 2 ≡ 2 * one.number + 2 = omega (arith, numbers) in
    second.0 ∙ ap (id OfChannel) next ∙ sym first.1

-- no write end has another one for its other end
pub reads_other : (state : State) → Reached state → NumbersFit state → (text : List ℕ) (channel reader : Channel)
    → channel_of state.channels text ≡ Some channel → channel.end ≡ Writes → channel_of state.channels channel.other ≡ Some reader
    → reader.end ≡ Writes → ⊥
reads_other state reached small text channel reader there writes found also =
    let pipes = reached_pipes state reached small in
    let table = state.channels in
    let one : IsEnd table.next text channel = subst (λ found. IfSome found (IsEnd table.next text)) there (pipes.ends text) in
    let two : IsEnd table.next channel.other reader =
    subst (λ found. IfSome found (IsEnd table.next channel.other)) found (pipes.ends channel.other) in
    let first : IsPart one.number text channel.other false = subst (λ end. IsPart one.number text channel.other (is_read end)) writes one.part in
    let second : IsPart two.number channel.other reader.other false =
    subst (λ end. IsPart two.number channel.other reader.other (is_read end)) also two.part in
    let same : 2 * one.number + 1 ≡ 2 * two.number + 2 =
    ids_differ OfChannel (2 * one.number + 1) (2 * two.number + 2) (omega (arith, one.below, small)) (omega (arith, two.below, small))
    (sym first.1 ∙ second.0) in
    absurd (omega (arith, same))
