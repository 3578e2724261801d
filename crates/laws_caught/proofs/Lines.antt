-- Who waits for a line of a pipe waits on while the thread that owns its write end does nothing.
use Rattle.std.proofs.Common.{◌≡◌, ◌≢◌, ◌∙◌, ◌<◌, ◌≤◌, ◌^◌, ◌==◌, ◌&&◌, ◌||◌, ℕ, Bool, true, false, not, if◌then◌else◌, List, []}
use Rattle.std.proofs.Common.{Option, Some, None, is_some, option_to_list, ap, refl, sym, subst, arith}
use Rattle.std.specs.List.{Contains}
use Rattle.tt_calls.specs.Replies.{Answered, refuses}
use Rattle.tt_calls.specs.declared.chan_call.ChanCall.{ChanCall}
use Rattle.tt_calls.specs.declared.chan_call.ChanCall.TheVariants as chan
use Rattle.tt_calls.specs.declared.request.Request.{Request}
use Rattle.tt_calls.specs.declared.request.Request.TheVariants as ask
use Rattle.tt_chans.specs.Blocking as blocking
use Rattle.tt_chans.specs.Calls.{act as answered, gets, if_owned, is_joined, lacks_line, puts, puts_at, standard_message, table_after, waits, waits_for_line}
use Rattle.tt_chans.specs.Channels.{ChannelTable, after_arrival, channel_of, is_standard, owner_given, table_after_end, with_channel, with_pipe, without_channel}
use Rattle.tt_chans.specs.Ends.{after_end, gets_line, is_owned, own_channel, owner_after, puts_into, stays_open, with_owner}
use Rattle.tt_chans.specs.Lines.{has_line}
use Rattle.tt_chans.specs.declared.channel.Channel.{Channel}
use Rattle.tt_chans.specs.declared.channel.End.{End}
use Rattle.tt_chans.specs.declared.channel.End.TheVariants.{Reads, Writes}
use Rattle.tt_chans.specs.declared.channel.Owner.{Owner}
use Rattle.tt_chans.specs.declared.channel.Owner.TheVariants.{Thread, Detached, Moving}
use Rattle.laws_caught.proofs.Arrays.{in_none}
use Rattle.laws_caught.proofs.Ended.{lives_on, one_of}
use Rattle.laws_caught.specs.WaitLaws.{LineWaitLaw}
use Rattle.laws_shared.proofs.Apart.{left, left-is, other_key}
use Rattle.laws_shared.proofs.ChannelCalls.{Changes, attached, by_call, detached, moved, moves_bytes, speaks}
use Rattle.laws_shared.proofs.Channels.{IsFound, by_action, owned_is}
use Rattle.laws_shared.proofs.Deciding as deciding
use Rattle.laws_shared.proofs.Drawn.{IsDrawn, by_pipe, reached_drawn, read_new, up_after, write_new}
use Rattle.laws_shared.proofs.PipeEnds.{one_writer}
use Rattle.laws_shared.proofs.Tables.{by_remove, by_set, is_key, same_key}
use Rattle.laws_shared.specs.Actions.{NumbersFit, Reached}
use Rattle.laws_shared.specs.Orderly.{later}
use Rattle.tt_shared.specs.Acts.{act, target_of}
use Rattle.tt_shared.specs.State.{State}
use Rattle.tt_shared.specs.declared.applied.Line.{Line}

-- ---- an end that a thread owns ----

-- the end is there, owned by the thread, with this other end, and what is kept of its bytes
record IsOwn (t : ℕ) (other : List ℕ) (Keeps : End → Type 0) (found : Option Channel) : Type 0 where
  channel : Channel
  there : found ≡ Some channel
  owner : channel.owner ≡ Thread t
  names : channel.other ≡ other
  keeps : Keeps channel.end

same_channel : (one other : Channel) → Some one ≡ Some other → one ≡ other
same_channel one other is = cc is

same_owner : (n t : ℕ) → Thread n ≡ Thread t → n ≡ t
same_owner n t is = cc is

not_detached : (t : ℕ) → Detached ≡ Thread t → ⊥
not_detached t is = cc is

puts_owner : (reader : Channel) (bytes : List ℕ) (end : End) → (puts_into reader bytes end).channel.owner ≡ reader.owner
puts_owner reader bytes (Reads before ended) = refl
puts_owner reader bytes Writes = refl

puts_names : (reader : Channel) (bytes : List ℕ) (end : End) → (puts_into reader bytes end).channel.other ≡ reader.other
puts_names reader bytes (Reads before ended) = refl
puts_names reader bytes Writes = refl

goes_on : (channel : Channel) (t n : ℕ) → n ≢ t → channel.owner ≡ Thread t → stays_open n channel ≡ true
goes_on channel t n other is = rw (is, stays_open) (ap not (deciding.apart t n (λ same. other (sym same))))

module _ (state : State) (t n : ℕ) (text other : List ℕ) (Keeps : End → Type 0) (drawn : IsDrawn state.channels)
    (own : IsOwn t other Keeps (channel_of state.channels text)) (not_t : n ≢ t)
    (put_keeps : (id : List ℕ) (writer reader : Channel) (bytes : List ℕ) → channel_of state.channels id ≡ Some writer → writer.owner ≡ Thread n →
    writer.end ≡ Writes → writer.other ≡ text → Keeps reader.end → Keeps (puts_into reader bytes reader.end).channel.end) where
  abbrev table : ChannelTable
  table = state.channels

  abbrev Owns : ChannelTable → Type 0
  Owns new = new.next < 2 ^ 64 → IsOwn t other Keeps (channel_of new text)

  same : Owns table
  same small = own

  none_there : (id : List ℕ) → text ≡ id → channel_of table id ≡ None → ⊥
  none_there id here missing = let both : None ≡ Some own.channel = sym missing ∙ sym (ap (channel_of table) here) ∙ own.there in cc both

  this_end : (id : List ℕ) (old : Channel) → channel_of table id ≡ Some old → text ≡ id → own.channel ≡ old
  this_end id old there here = same_channel own.channel old (sym own.there ∙ ap (channel_of table) here ∙ there)

  -- what another thread owns is another end, and so is what nobody owns
  others_end : (id : List ℕ) (old : Channel) → channel_of table id ≡ Some old → old.owner ≡ Thread n → text ≢ id
  others_end id old there mine here =
      not_t (same_owner n t (sym mine ∙ sym (ap (λ (one : Channel). one.owner) (this_end id old there here)) ∙ own.owner))

  nobodys_end : (id : List ℕ) (old : Channel) → channel_of table id ≡ Some old → old.owner ≡ Detached → text ≢ id
  nobodys_end id old there nobody here =
      not_detached t (sym nobody ∙ sym (ap (λ (one : Channel). one.owner) (this_end id old there here)) ∙ own.owner)

  elsewhere : (id : List ℕ) (new : Channel) → text ≢ id → Owns (with_channel table id new)
  elsewhere id new differs small = by_set (IsOwn t other Keeps) text id table.channels new (λ here had. absurd (differs here)) own

  -- ---- puts and gets ----

  into : (id bytes : List ℕ) (channel reader : Channel) → IsFound n (channel_of table id) channel → channel.end ≡ Writes →
      channel_of table channel.other ≡ Some reader → Owns (with_channel table channel.other (puts_into reader bytes reader.end).channel)
  into id bytes channel reader found writes there small =
      by_set (IsOwn t other Keeps) text channel.other table.channels (puts_into reader bytes reader.end).channel
      (λ here had.
      subst (λ (one : Channel). IsOwn t other Keeps (Some (puts_into one bytes one.end).channel)) (this_end channel.other reader there here)
      (record {
        channel = (puts_into own.channel bytes own.channel.end).channel;
        there = refl;
        owner = puts_owner own.channel bytes own.channel.end ∙ own.owner;
        names = puts_names own.channel bytes own.channel.end ∙ own.names;
        keeps = put_keeps id channel own.channel bytes found.there found.owner writes (sym here) own.keeps;
      }))
      own

  by_other : (id bytes : List ℕ) (channel : Channel) (reader : Option Channel) → IsFound n (channel_of table id) channel → channel.end ≡ Writes →
      channel_of table channel.other ≡ reader → Owns (puts_at table channel.other bytes reader).table
  by_other id bytes channel None found writes there = same
  by_other id bytes channel (Some reader) found writes there = into id bytes channel reader found writes there

  by_channel : (id bytes : List ℕ) (channel : Channel) → IsFound n (channel_of table id) channel → Owns (puts table id bytes channel).table
  by_channel id bytes channel found = go channel.end refl
    where
      go : (end : End) → channel.end ≡ end → Owns (puts table id bytes channel).table
      go Writes is = rw (is, puts) (by_other id bytes channel (channel_of table channel.other) found is refl)
      go (Reads before ended) is = rw (is, puts) same

  by_owned : (does : Channel → Answered ChannelTable) (id : List ℕ) → ((channel : Channel) → IsFound n (channel_of table id) channel → Owns (does channel).table) →
      Owns (if_owned does table n id).table
  by_owned does id each = go (own_channel n (channel_of table id)) refl
    where
      go : (one : Option Channel) → own_channel n (channel_of table id) ≡ one → Owns (if_owned does table n id).table
      go None is = rw (is, if_owned) same
      go (Some channel) is = rw (is, if_owned) (each channel (owned_is n (channel_of table id) channel is))

  by_standard : (b : Bool) (call : ChanCall) (id : List ℕ) (done : Answered ChannelTable) → Owns done.table →
      Owns (if b then refuses table (standard_message id call) else done).table
  by_standard true call id done is = same
  by_standard false call id done is = is

  by_wait : (b : Bool) (new : ChannelTable) → Owns new → Owns (if b then table else new)
  by_wait true new is = same
  by_wait false new is = is

  -- ---- other calls ----

  by_change : (target : Option ℕ) (call : ChanCall) (id : List ℕ) (old new : Channel) → moves_bytes call ≡ false → channel_of table id ≡ Some old →
      Changes n target call id old new → Owns (with_channel table id new)
  by_change target call id old new quiet there (speaks moves is) = let both : true ≡ false = sym moves ∙ quiet in absurd (cc both)
  by_change target call id old new quiet there (detached asks mine is) = elsewhere id new (others_end id old there mine)
  by_change target call id old new quiet there (moved asks goes mine is) = elsewhere id new (others_end id old there mine)
  by_change target call id old new quiet there (attached asks nobody is) = elsewhere id new (nobodys_end id old there nobody)

  by_new : Owns (with_pipe table n)
  by_new small =
      by_pipe (IsOwn t other Keeps) table n text (λ here. absurd (none_there _ here (read_new table drawn small)))
      (λ here. absurd (none_there _ here (write_new table drawn small))) own

  by_quiet : (target : Option ℕ) (call : ChanCall) → moves_bytes call ≡ false → Owns (table_after table n target call)
  by_quiet target call quiet =
      by_call Owns table n target same call (λ id old new there changes. by_change target call id old new quiet there changes)
      (λ id old closes found small. by_remove (IsOwn t other Keeps) text id table.channels (others_end id old found.there found.owner) own) (λ is. by_new)

  by_calls : (target : Option ℕ) (call : ChanCall) → Owns (table_after table n target call)
  by_calls target (chan.Put id bytes) =
      by_standard (is_standard id) (chan.Put id bytes) id (if_owned (puts table id bytes) table n id)
      (by_owned (puts table id bytes) id (λ channel found. by_channel id bytes channel found))
  by_calls target (chan.GetLine id) =
      by_wait (waits table n (chan.GetLine id)) (answered table n target (chan.GetLine id)).table
      (by_standard (is_standard id) (chan.GetLine id) id (if_owned (gets table id) table n id)
      (by_owned (gets table id) id
      (λ channel found. elsewhere id (gets_line channel id channel.end).channel (others_end id channel found.there found.owner))))
  by_calls target call = by_quiet target call refl

  -- ---- arrivals and ends ----

  by_come : (id : List ℕ) (found : Option Channel) → channel_of table id ≡ found → Owns (after_arrival table n id found)
  by_come id None there small = own
  by_come id (Some channel) there small =
      by_set (IsOwn t other Keeps) text id table.channels (with_owner channel (owner_given n channel.owner))
      (λ here had.
      subst (λ (one : Channel). IsOwn t other Keeps (Some (with_owner one (owner_given n one.owner)))) (this_end id channel there here)
      (record {
        channel = with_owner own.channel (owner_given n own.channel.owner);
        there = refl;
        owner = ap (owner_given n) own.owner;
        names = own.names;
        keeps = own.keeps;
      }))
      own

  by_end : Owns (table_after_end table n)
  by_end small =
      subst (IsOwn t other Keeps) (sym (left-is (stays_open n) (after_end n) text table.channels drawn.apart))
      (subst (λ found. IsOwn t other Keeps (left (stays_open n) (after_end n) found)) (sym own.there)
      (either (stays_open n own.channel) (goes_on own.channel t n not_t own.owner)))
    where
      either : (b : Bool) → b ≡ true → IsOwn t other Keeps (if b then Some (after_end n own.channel) else None)
      either true stays = record {
        channel = after_end n own.channel;
        there = refl;
        owner = ap (owner_after n) own.owner;
        names = own.names;
        keeps = own.keeps;
      }
      either false stays = absurd (cc stays)

  owns_after : (request : Request) (line : Line) → Owns (act state n request line).state.channels
  owns_after request line =
      by_action Owns state n same (λ id. by_come id (channel_of table id) refl) request line (λ call asks. by_calls (target_of state call) call) (λ code asks. by_end)

-- ---- the wait for a line ----

-- a thread has a read end without a line, and another has its write end
record WaitsForLine (table : ChannelTable) (t u : ℕ) (text : List ℕ) : Type 0 where
  reader : Channel
  writer : Channel
  bytes : List ℕ
  ended : Bool
  there : channel_of table text ≡ Some reader
  mine : reader.owner ≡ Thread t
  reads : reader.end ≡ Reads bytes ended
  no_line : not (has_line bytes) ≡ true
  joined : channel_of table reader.other ≡ Some writer
  theirs : writer.owner ≡ Thread u

writer_is : (table : ChannelTable) (channel : Channel) (bytes : List ℕ) (ended : Bool) → channel.end ≡ Reads bytes ended →
    blocking.writer table (Some channel) ≡ blocking.owner_in (channel_of table channel.other)
writer_is table channel bytes ended is = rw (is, blocking.writer) refl

owned_by : (table : ChannelTable) (id : List ℕ) (u : ℕ) (found : Option Channel) → channel_of table id ≡ found →
    Contains (option_to_list (blocking.owner_in found)) u → (writer : Channel) × (channel_of table id ≡ Some writer) × (writer.owner ≡ Thread u)
owned_by chans id u None there named = in_none _ u named
owned_by chans id u (Some writer) there named = (writer, there, go writer.owner named)
  where
    go : (owner : Owner) → Contains (option_to_list (blocking.thread_of owner)) u → owner ≡ Thread u
    go (Thread one) named = ap Thread (one_of one u named)
    go Detached named = in_none _ u named
    go (Moving from to) named = in_none _ u named

both_true : (a b : Bool) → (a && b) ≡ true → (a ≡ true) × (b ≡ true)
both_true true b is = (refl, is)
both_true false b is = absurd (cc is)

line_is : (table : ChannelTable) (t u : ℕ) (text : List ℕ) → waits_for_line table (own_channel t (channel_of table text)) ≡ true →
    Contains (option_to_list (blocking.writer table (channel_of table text))) u → WaitsForLine table t u text
line_is table t u text waiting named = go (own_channel t (channel_of table text)) refl waiting
  where
    by_end : (reader : Channel) → IsFound t (channel_of table text) reader → (end : End) → reader.end ≡ end → lacks_line table reader end ≡ true →
        WaitsForLine table t u text
    by_end reader found Writes is lacks = absurd (cc lacks)
    by_end reader found (Reads bytes ended) is lacks =
        let called = subst (λ one. Contains (option_to_list (blocking.writer table one)) u) found.there named in
        let writer = owned_by table reader.other u (channel_of table reader.other) refl
        (subst (λ one. Contains (option_to_list one) u) (writer_is table reader bytes ended is) called) in
        record {
          reader = reader;
          writer = writer.0;
          bytes = bytes;
          ended = ended;
          there = found.there;
          mine = found.owner;
          reads = is;
          no_line = (both_true (not (has_line bytes)) (is_joined table reader) lacks).0;
          joined = writer.1;
          theirs = writer.2;
        }

    go : (one : Option Channel) → own_channel t (channel_of table text) ≡ one → waits_for_line table one ≡ true → WaitsForLine table t u text
    go None is lacks = absurd (cc lacks)
    go (Some reader) is lacks = by_end reader (owned_is t (channel_of table text) reader is) reader.end refl lacks

unwaited : (b : Bool) → not b ≡ false → b ≡ true
unwaited true is = refl
unwaited false is = absurd (cc is)

-- so it waits
lacks_still : (table : ChannelTable) (t : ℕ) (text other : List ℕ) (bytes : List ℕ) (ended : Bool) (writer : Channel) →
    IsOwn t other (λ end. end ≡ Reads bytes ended) (channel_of table text) → channel_of table other ≡ Some writer → not (has_line bytes) ≡ true →
    waits_for_line table (own_channel t (channel_of table text)) ≡ true
lacks_still table t text other bytes ended writer own joined no_line =
    ap (λ found. waits_for_line table (own_channel t found)) own.there
    ∙ ap (λ b. waits_for_line table (if b then Some own.channel else None)) mine
    ∙ ap (lacks_line table own.channel) own.keeps
    ∙ ap (λ found. not (has_line bytes) && is_some found) (ap (channel_of table) own.names ∙ joined)
    ∙ ap (λ b. b && true) no_line
  where
    mine : is_owned own.channel.owner t ≡ true
    mine = ap (λ owner. is_owned owner t) own.owner ∙ deciding.itself t

-- and is named
named_still : (table : ChannelTable) (t u : ℕ) (text other rest : List ℕ) (bytes : List ℕ) (ended : Bool) (Keeps : End → Type 0) →
    IsOwn t other (λ end. end ≡ Reads bytes ended) (channel_of table text) → IsOwn u rest Keeps (channel_of table other) →
    Contains (option_to_list (blocking.writer table (channel_of table text))) u
named_still table t u text other rest bytes ended Keeps own theirs =
    subst (λ one. Contains (option_to_list one) u) (sym writes) (0, omega arith, refl)
  where
    writes : blocking.writer table (channel_of table text) ≡ Some u
    writes =
        ap (blocking.writer table) own.there
        ∙ writer_is table own.channel bytes ended own.keeps
        ∙ ap blocking.owner_in (ap (channel_of table) own.names ∙ theirs.there)
        ∙ ap blocking.thread_of theirs.owner

pub line_wait : LineWaitLaw
line_wait text moment t u reached can fit not_t not_u waits = record {
  lives = lives_on moment t not_t waits.lives;
  not_enabled = ap not (lacks_still (later moment).channels t text was.reader.other was.bytes was.ended theirs.channel mine theirs.there was.no_line);
  other_lives = lives_on moment u not_u waits.other_lives;
  named = named_still (later moment).channels t u text was.reader.other was.writer.other was.bytes was.ended (λ end. ℕ) mine theirs;
}
  where
    small : (later moment).channels.next < 2 ^ 64
    small = fit.channels

    fits : moment.before.channels.next < 2 ^ 64
    fits = let up : moment.before.channels.next ≤ (later moment).channels.next = (up_after moment.before moment.action.thread moment.action.request moment.action.line).up in omega (arith, small, up)

    drawn : IsDrawn moment.before.channels
    drawn = reached_drawn moment.before reached fits

    was : WaitsForLine moment.before.channels t u text
    was = line_is moment.before.channels t u text (unwaited _ waits.not_enabled) waits.named

    -- nobody else puts into it
    put_by_owner : (id : List ℕ) (writer reader : Channel) (bytes : List ℕ) → channel_of moment.before.channels id ≡ Some writer →
        writer.owner ≡ Thread moment.action.thread → writer.end ≡ Writes → writer.other ≡ text → reader.end ≡ Reads was.bytes was.ended →
        (puts_into reader bytes reader.end).channel.end ≡ Reads was.bytes was.ended
    put_by_owner id writer reader bytes there owner writes names keeps =
        let here : id ≡ was.reader.other =
        one_writer moment.before reached fits text id was.reader writer was.bytes was.ended was.there was.reads there writes names in
        let this : writer ≡ was.writer = same_channel writer was.writer (sym there ∙ ap (channel_of moment.before.channels) here ∙ was.joined) in
        absurd (not_u (same_owner moment.action.thread u (sym owner ∙ ap (λ (one : Channel). one.owner) this ∙ was.theirs)))

    mine : IsOwn t was.reader.other (λ end. end ≡ Reads was.bytes was.ended) (channel_of (later moment).channels text)
    mine =
        owns_after moment.before t moment.action.thread text was.reader.other (λ end. end ≡ Reads was.bytes was.ended) drawn
        (record { channel = was.reader; there = was.there; owner = was.mine; names = refl; keeps = was.reads }) not_t put_by_owner moment.action.request
        moment.action.line small

    theirs : IsOwn u was.writer.other (λ end. ℕ) (channel_of (later moment).channels was.reader.other)
    theirs =
        owns_after moment.before u moment.action.thread was.reader.other was.writer.other (λ end. ℕ) drawn
        (record { channel = was.writer; there = was.joined; owner = was.theirs; names = refl; keeps = 0 }) not_u
        (λ id writer reader bytes there owner writes names keeps. 0) moment.action.request moment.action.line small
