-- What puts adds to a pipe, and what gets takes from it.
use Rattle.std.proofs.Common.{◌≡◌, ◌≢◌, ◌∙◌, ℕ, Bool, true, false, if◌then◌else◌, List, [], ◌∷◌, ◌++◌, codes, Option}
use Rattle.std.proofs.Common.{Some, None, ap, refl, sym, subst, bytes_eq}
use Rattle.std.proofs.lemmas.List.{append_assoc, append-nil}
use Rattle.tt_calls.specs.declared.chan_call.ChanCall.TheVariants as chan
use Rattle.tt_calls.specs.declared.reply.Reply.TheVariants as reply
use Rattle.tt_calls.specs.declared.reply.Step.TheVariants as step
use Rattle.tt_chans.proofs.LineLaw.{line}
use Rattle.tt_calls.specs.Replies.{Answered, refuses}
use Rattle.tt_chans.specs.Calls.{act, gets, if_owned, id_message, puts, puts_at, standard_message, step_after, table_after, took, waits}
use Rattle.tt_chans.specs.Channels.{ChannelTable, channel_of, is_standard, with_channel}
use Rattle.tt_chans.specs.Ends.{Taken, gets_line, own_channel, puts_into, reads, rest_reply, takes_line, takes_rest}
use Rattle.tt_chans.specs.Lines.{first_line, has_line, later_lines}
use Rattle.tt_chans.specs.declared.channel.Channel.{Channel}
use Rattle.tt_chans.specs.declared.channel.End.{End}
use Rattle.tt_chans.specs.declared.channel.End.TheVariants.{Reads, Writes}
use Rattle.laws_shared.proofs.Deciding as deciding
use Rattle.laws_shared.proofs.Channels.{owned_is}
use Rattle.laws_shared.proofs.Flows.{Flow, flow_same, opened}
use Rattle.laws_shared.proofs.Tables.{by_set, set_here}
use Rattle.laws_shared.specs.Pipes.{bytes_at, bytes_in, bytes_of, has_newline, bytes_into, line_takes}
use Rattle.tt_shared.specs.State.{reply_of}

module _ (table : ChannelTable) (id : List ℕ) where
  abbrev After : ChannelTable → (put taken : List ℕ) → Type 0
  After new put taken = Flow table.next id (bytes_at table id) (bytes_at new id) put taken

  same : After table [] []
  same = flow_same table.next id (bytes_at table id)

  -- another end under an id that is not this one
  elsewhere : (text : List ℕ) (new : Channel) → id ≢ text → After (with_channel table text new) [] []
  elsewhere text new other =
      by_set (λ found. Flow table.next id (bytes_at table id) (bytes_in found) [] []) id text table.channels new (λ here had. absurd (other here)) same

  -- an end with the same bytes
  alike : (text : List ℕ) (old new : Channel) → channel_of table text ≡ Some old → new.end ≡ old.end → After (with_channel table text new) [] []
  alike text old new there is =
      by_set (λ found. Flow table.next id (bytes_at table id) (bytes_in found) [] []) id text table.channels new
      (λ here had.
      let found : bytes_at table id ≡ bytes_of new.end = ap (bytes_at table) here ∙ ap bytes_in there ∙ ap bytes_of (sym is) in
      subst (λ bytes. Flow table.next id (bytes_at table id) bytes [] []) found same)
      same

  -- ---- puts ----

  module _ (text bytes : List ℕ) where
    abbrev Puts : Answered ChannelTable → Type 0
    Puts answered = After answered.table (bytes_into id bytes (channel_of table text) answered.reply) []

    no_put : (found : Option Channel) (message : List ℕ) → bytes_into id bytes found (reply.Refused message) ≡ []
    no_put None message = refl
    no_put (Some channel) message = refl

    refused : (message : List ℕ) → Puts (refuses table message)
    refused message = subst (λ put. After table put []) (sym (no_put (channel_of table text) message)) same

    -- it goes into the read end that the channel names
    goes_in : (channel reader : Channel) (before : List ℕ) (ended : Bool) → channel_of table text ≡ Some channel →
        channel_of table channel.other ≡ Some reader → reader.end ≡ Reads before ended
        → Puts (took table channel.other (puts_into reader bytes (Reads before ended)))
    goes_in channel reader before ended there names is =
        subst (λ put. After (with_channel table channel.other (reads reader (before ++ bytes) ended)) put [])
        (sym (ap (λ found. bytes_into id bytes found reply.Go) there)) (go (bytes_eq channel.other id) refl)
      where
        go : (b : Bool) → bytes_eq channel.other id ≡ b →
            After (with_channel table channel.other (reads reader (before ++ bytes) ended)) (if b then bytes else []) []
        go true here =
            let same_id : channel.other ≡ id = deciding.same_text channel.other id here in
            opened
            (ap (bytes_at table) (sym same_id) ∙ ap bytes_in names ∙ ap bytes_of is)
            (ap (bytes_at (with_channel table channel.other (reads reader (before ++ bytes) ended))) (sym same_id)
            ∙ ap bytes_in (set_here channel.other table.channels (reads reader (before ++ bytes) ended) reader names))
            refl
        go false here =
            elsewhere channel.other (reads reader (before ++ bytes) ended)
            (λ is. deciding.texts_differ channel.other id here (sym is))

    by_reader : (channel : Channel) (found : Option Channel) → channel_of table text ≡ Some channel → channel_of table channel.other ≡ found →
        Puts (puts_at table channel.other bytes found)
    by_reader channel None there names = refused _
    by_reader channel (Some reader) there names = go reader.end refl
      where
        go : (end : End) → reader.end ≡ end → Puts (took table channel.other (puts_into reader bytes end))
        go (Reads before ended) is = goes_in channel reader before ended there names is
        go Writes is =
            subst (λ put. After (with_channel table channel.other reader) put []) (sym (no_put (channel_of table text) []))
            (alike channel.other reader reader names refl)

    by_writer : (channel : Channel) → channel_of table text ≡ Some channel → Puts (puts table text bytes channel)
    by_writer channel there = go channel.end refl
      where
        go : (end : End) → channel.end ≡ end → Puts (puts table text bytes channel)
        go Writes is = rw (is, puts) (by_reader channel (channel_of table channel.other) there refl)
        go (Reads before ended) is = rw (is, puts) (refused _)

    by_put : (t : ℕ) → Puts (if_owned (puts table text bytes) table t text)
    by_put t = go (own_channel t (channel_of table text)) refl
      where
        go : (found : Option Channel) → own_channel t (channel_of table text) ≡ found → Puts (if_owned (puts table text bytes) table t text)
        go None is = rw (is, if_owned) (refused _)
        go (Some channel) is = rw (is, if_owned) (by_writer channel (owned_is t (channel_of table text) channel is).there)

    pub put_after : (t : ℕ) (target : Option ℕ) → Puts (act table t target (chan.Put text bytes))
    put_after t target = go (is_standard text)
      where
        go : (b : Bool) → Puts (if b then refuses table (standard_message text (chan.Put text bytes)) else if_owned (puts table text bytes) table t text)
        go true = refused _
        go false = by_put t

  -- ---- gets ----

  module _ (text : List ℕ) where
    abbrev Gets : Answered ChannelTable → Type 0
    Gets answered = After answered.table [] (if bytes_eq text id then line_takes (has_newline (bytes_at table id)) answered.reply else [])

    not_got : (message : List ℕ) → Gets (refuses table message)
    not_got message = go (bytes_eq text id)
      where
        go : (b : Bool) → After table [] (if b then line_takes (has_newline (bytes_at table id)) (reply.Refused message) else [])
        go true = same
        go false = same

    -- the end of the id itself, with other bytes
    here : (old new : Channel) (before after taken : List ℕ) (ended over : Bool) → channel_of table text ≡ Some old → old.end ≡ Reads before ended →
        new.end ≡ Reads after over
        → text ≡ id → before ++ [] ≡ taken ++ after → After (with_channel table text new) [] taken
    here old new before after taken ended over there was is mine flows =
        opened
        (ap (bytes_at table) (sym mine) ∙ ap bytes_in there ∙ ap bytes_of was)
        (ap (bytes_at (with_channel table text new)) (sym mine) ∙ ap bytes_in (set_here text table.channels new old there) ∙ ap bytes_of is)
        flows

    -- a line and its newline, or the rest
    rest_taken : (bytes : List ℕ) → line_takes false (rest_reply bytes) ≡ bytes
    rest_taken [] = refl
    rest_taken (b ∷ bytes) = refl

    line_taken : (bytes : List ℕ) → has_line bytes ≡ true → bytes ++ [] ≡ (first_line bytes ++ 10 ∷ []) ++ later_lines bytes
    line_taken bytes has = append-nil bytes ∙ sym (line bytes has) ∙ sym (append_assoc (first_line bytes) (10 ∷ []) (later_lines bytes))

    module _ (channel : Channel) (bytes : List ℕ) (ended : Bool) (there : channel_of table text ≡ Some channel) (is : channel.end ≡ Reads bytes ended) where
      abbrev line_or_rest : Bool → Taken
      line_or_rest newline =
          if newline then record { channel = reads channel (later_lines bytes) ended; reply = reply.Line (first_line bytes) } else takes_rest channel bytes

      got : text ≡ id → (newline : Bool) → has_line bytes ≡ newline →
          After (with_channel table text (line_or_rest newline).channel) [] (line_takes newline (line_or_rest newline).reply)
      got mine true has =
          here channel (reads channel (later_lines bytes) ended) bytes (later_lines bytes) (first_line bytes ++ 10 ∷ []) ended ended there is refl mine
          (line_taken bytes has)
      got mine false has =
          here channel (reads channel [] true) bytes [] (line_takes false (rest_reply bytes)) ended true there is refl mine
          (ap (λ taken. taken ++ []) (sym (rest_taken bytes)))

      by_line : Gets (took table text (takes_line channel bytes ended))
      by_line = go (bytes_eq text id) refl
        where
          go : (b : Bool) → bytes_eq text id ≡ b
              → After (with_channel table text (takes_line channel bytes ended).channel) []
              (if b then line_takes (has_newline (bytes_at table id)) (takes_line channel bytes ended).reply else [])
          go true same_id =
              let mine : text ≡ id = deciding.same_text text id same_id in
              let newline : has_newline (bytes_at table id) ≡ has_line bytes =
              ap has_newline (ap (bytes_at table) (sym mine) ∙ ap bytes_in there ∙ ap bytes_of is) in
              subst (λ one. After (with_channel table text (takes_line channel bytes ended).channel) []
              (line_takes one (takes_line channel bytes ended).reply)) (sym newline)
              (got mine (has_line bytes) refl)
          go false other =
              elsewhere text (takes_line channel bytes ended).channel
              (λ mine. deciding.texts_differ text id other (sym mine))

    by_reader_end : (channel : Channel) → channel_of table text ≡ Some channel → Gets (gets table text channel)
    by_reader_end channel there = go channel.end refl
      where
        writes : Gets (took table text (gets_line channel text Writes))
        writes = wrong (bytes_eq text id)
          where
            wrong : (b : Bool) →
                After (with_channel table text channel) []
                (if b then line_takes (has_newline (bytes_at table id)) (gets_line channel text Writes).reply else [])
            wrong true = alike text channel channel there refl
            wrong false = alike text channel channel there refl

        go : (end : End) → channel.end ≡ end → Gets (took table text (gets_line channel text end))
        go Writes is = writes
        go (Reads bytes ended) is = by_line channel bytes ended there is

    by_get : (t : ℕ) → Gets (if_owned (gets table text) table t text)
    by_get t = go (own_channel t (channel_of table text)) refl
      where
        go : (found : Option Channel) → own_channel t (channel_of table text) ≡ found → Gets (if_owned (gets table text) table t text)
        go None is = rw (is, if_owned) (not_got (id_message (codes "can not find channel named \"") text (codes "\"")))
        go (Some channel) is = rw (is, if_owned) (by_reader_end channel (owned_is t (channel_of table text) channel is).there)

    get_answered : (t : ℕ) (target : Option ℕ) → Gets (act table t target (chan.GetLine text))
    get_answered t target = go (is_standard text)
      where
        go : (b : Bool) → Gets (if b then refuses table (standard_message text (chan.GetLine text)) else if_owned (gets table text) table t text)
        go true = not_got []
        go false = by_get t

    -- a call whole, which may wait
    pub get_after : (t : ℕ) (target : Option ℕ)
        → Gets (record { table = table_after table t target (chan.GetLine text); reply = reply_of (step_after table t target (chan.GetLine text)) })
    get_after t target = go (waits table t (chan.GetLine text))
      where
        go : (b : Bool) → Gets (record {
          table = if b then table else (act table t target (chan.GetLine text)).table;
          reply = reply_of (if b then step.Wait else step.Reply (act table t target (chan.GetLine text)).reply);
        })
        go true = not_got []
        go false = get_answered t target
