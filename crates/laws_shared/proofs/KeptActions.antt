-- Each action of a thread that lives keeps the channels, and so does a run.
use Rattle.std.proofs.Common.{◌≡◌, ◌∙◌, ◌-◌, ◌<◌, ◌^◌, ◌==◌, ℕ, zero, suc, Bool, true, false, if◌then◌else◌, List, []}
use Rattle.std.proofs.Common.{◌∷◌, length, slice_get, codes, Option, Some, None, IfSome, ap, refl, sym, subst, ℤ, arith}
use Rattle.std.specs.Map.{values_of}
use Rattle.tt_calls.specs.Replies as replies
use Rattle.tt_calls.specs.Replies.{Answered}
use Rattle.tt_calls.specs.declared.chan_call.ChanCall.{ChanCall}
use Rattle.tt_calls.specs.declared.chan_call.ChanCall.TheVariants as chan
use Rattle.tt_calls.specs.declared.event.Event.{Event}
use Rattle.tt_calls.specs.declared.event.Event.TheVariants as event
use Rattle.tt_calls.specs.declared.reply.Reply.TheVariants as reply
use Rattle.tt_calls.specs.declared.reply.Step.{Step}
use Rattle.tt_calls.specs.declared.reply.Step.TheVariants as step
use Rattle.tt_calls.specs.declared.request.Request.{Request}
use Rattle.tt_calls.specs.declared.request.Request.TheVariants as ask
use Rattle.tt_calls.specs.declared.start.Start.{Start}
use Rattle.tt_chans.specs.Calls as channels
use Rattle.tt_chans.specs.Channels.{ChannelTable, channel_of, is_standard}
use Rattle.tt_chans.specs.Ends.{own_channel}
use Rattle.tt_chans.specs.declared.channel.Channel.{Channel}
use Rattle.tt_chans.specs.declared.channel.Owner.{Owner}
use Rattle.tt_chans.specs.declared.channel.Owner.TheVariants.{Thread, Detached, Moving}
use Rattle.laws_shared.proofs.Deciding as deciding
use Rattle.laws_shared.proofs.Arrivals.{SameArrivals, by_mail, by_new, count, many_emptied, many_mail}
use Rattle.laws_shared.proofs.Channels.{IsFound, owned_is}
use Rattle.laws_shared.proofs.Drawn.{IsDrawn, none_drawn, up_after, up_along}
use Rattle.laws_shared.proofs.Kept.{AllHold, Kept, OwnerLives, by_calls, by_sent, expected, is_transfer, mild_kept}
use Rattle.laws_shared.proofs.KeptComes.{by_coming, by_other}
use Rattle.laws_shared.proofs.KeptEnds.{by_ending}
use Rattle.laws_shared.proofs.Lives.{IsLinked, linked_is, many_end}
use Rattle.laws_shared.proofs.Mild.{HaveQueues, by_starts, mild}
use Rattle.laws_shared.proofs.Numbered.{length-put}
use Rattle.laws_shared.specs.KeptChannels.{AreKept, IsKept, arrivals, events_in}
use Rattle.laws_shared.specs.SharedLaws.{ChannelsAreKeptLaw}
use Rattle.laws_shared.specs.Owners.{owner_at}
use Rattle.laws_shared.specs.Actions.{Action, Acts, NumbersFit, Reached, after, more, none}
use Rattle.tt_pools.specs.Calls as pools
use Rattle.tt_pools.specs.declared.step.PoolStep.{PoolStep}
use Rattle.tt_shared.specs.Acts.{act, gives_of, moves, on_channels, pools_after, target_of}
use Rattle.tt_shared.specs.Ends.{end_event, state_after_end, hears, tells_died, with_died_event}
use Rattle.tt_shared.specs.Mail.{Queues, first_in, queue_of, queues_with_event, with_queue, without_first_in}
use Rattle.tt_shared.specs.Sends.{come, takes, takes_first}
use Rattle.tt_shared.specs.State.{State, is_marked, room, start_state}
use Rattle.tt_shared.specs.declared.applied.Line.{Line}
use Rattle.tt_shared.specs.declared.posts.VariablePost.{VariablePost}
use Rattle.tt_threads.specs.Rows.{is_living, linked_thread, row_of}
use Rattle.tt_threads.specs.declared.row.Row.{Row}

all_of : (state : State) → Kept state → AllHold state.queues state.rows state.channels
all_of state kept = record { each = λ text. ((λ u. kept.arrive u text), kept.live text) }

kept_of : (state : State) → HaveQueues state → AllHold state.queues state.rows state.channels → Kept state
kept_of state queues all = record { queues = queues; arrive = λ u text. (all.each text).0 u; live = λ text. (all.each text).1 }

-- ---- an event is taken ----

-- the state after the first event of a queue was taken
abbrev after_taking : State → ℕ → Option (List Event) → State
after_taking state t None = state
after_taking state t (Some []) = state
after_taking state t (Some (event ∷ events)) = come (record state { queues = with_queue state.queues t events }) t event

taking : (state : State) (t : ℕ) (found : Option (List Event)) → queue_of state.queues t ≡ found → (takes state t).state ≡ after_taking state t found
taking state t None is = rw is refl
taking state t (Some []) is = rw is refl
taking state t (Some (event ∷ events)) is =
    ap (λ found. (takes_first state t (first_in found)).state) is
    ∙ ap (λ found. come (record state { queues = without_first_in state.queues t found }) t event) is

by_taking : (state : State) (t : ℕ) → is_living state.rows t ≡ true → Kept state → Kept (takes state t).state
by_taking state t lives kept = go (queue_of state.queues t) refl
  where
    come_event : (event : Event) (events : List Event) → queue_of state.queues t ≡ Some (event ∷ events) →
        Kept (come (record state { queues = with_queue state.queues t events }) t event)
    come_event (event.Moved id) events there =
        kept_of _ (length-put state.queues _ events ∙ kept.queues)
        (by_coming state.queues state.rows state.channels t lives (all_of state kept) events id there)
    come_event (event.Script n script answer plain) events there =
        kept_of _ (length-put state.queues _ events ∙ kept.queues)
        (by_other state.queues state.rows state.channels t lives (all_of state kept) events _ there (λ text. refl))
    come_event (event.SetVar name value) events there =
        kept_of _ (length-put state.queues _ events ∙ kept.queues)
        (by_other state.queues state.rows state.channels t lives (all_of state kept) events _ there (λ text. refl))
    come_event (event.Timer n script) events there =
        kept_of _ (length-put state.queues _ events ∙ kept.queues)
        (by_other state.queues state.rows state.channels t lives (all_of state kept) events _ there (λ text. refl))
    come_event event.Stop events there =
        kept_of _ (length-put state.queues _ events ∙ kept.queues)
        (by_other state.queues state.rows state.channels t lives (all_of state kept) events _ there (λ text. refl))

    go : (found : Option (List Event)) → queue_of state.queues t ≡ found → Kept (takes state t).state
    go None there = subst Kept (sym (taking state t None there)) kept
    go (Some []) there = subst Kept (sym (taking state t (Some []) there)) kept
    go (Some (event ∷ events)) there = subst Kept (sym (taking state t (Some (event ∷ events)) there)) (come_event event events there)

-- ---- pools ----

by_gives : (state : State) (t : ℕ) (gives : PoolStep) → is_living state.rows t ≡ true → Kept state → Kept (gives_of state t gives).state
by_gives state t gives lives kept = go gives.step refl
  where
    go : (one : Step) → gives.step ≡ one → Kept (gives_of state t gives).state
    go step.Wait is = rw is (by_taking state t lives kept)
    go (step.Reply told) is = rw is (mild_kept state _ (by_starts state gives.start gives.worker) kept)

by_answered : (state : State) (t : ℕ) (answered : pools.Answered) → is_living state.rows t ≡ true → Kept state → Kept (pools_after state t answered).state
by_answered state t answered lives kept =
    by_gives (record state { pools = answered.table }) t answered.gives lives (record { queues = kept.queues; arrive = kept.arrive; live = kept.live })

-- ---- channels ----

-- a list as long as another has a place too
at_too : {X Y : Type 0} (xs : List X) (ys : List Y) (i : ℕ) (x : X) → length ys ≡ length xs → slice_get xs i ≡ Some x → (y : Y) × (slice_get ys i ≡ Some y)
at_too [] ys i x same there = absurd (cc there)
at_too (x' ∷ xs) [] i x same there = absurd (omega (arith, same))
at_too (x' ∷ xs) (y ∷ ys) zero x same there = (y, refl)
at_too (x' ∷ xs) (y ∷ ys) (suc i) x same there = at_too xs ys i x (omega (arith, same)) there

has_queue : (state : State) (n : ℕ) (row : Row) → HaveQueues state → row_of state.rows n ≡ Some row → (events : List Event)
    × (queue_of state.queues n ≡ Some events)
has_queue state n row queues there = go (n == 0) there
  where
    go : (b : Bool) → (if b then None else slice_get state.rows (n - 1)) ≡ Some row → (events : List Event)
        × ((if b then None else slice_get state.queues (n - 1)) ≡ Some events)
    go true there = absurd (cc there)
    go false there = at_too state.rows state.queues (n - 1) row queues there

module _ (state : State) (t : ℕ) (lives : is_living state.rows t ≡ true) (kept : Kept state) (drawn : IsDrawn state.channels) where
  -- the state after an answer to a transfer
  abbrev sent : (thread text : List ℕ) → (target : Option ℕ) → Answered ChannelTable → State
  sent thread text target answered = moves (record state { channels = answered.table }) (chan.Transfer thread text) target answered.reply

  refused : (thread text : List ℕ) (target : Option ℕ) (message : List ℕ) → Kept (sent thread text target (replies.refuses state.channels message))
  refused thread text None message = kept
  refused thread text (Some to) message = kept

  by_owner : (thread text : List ℕ) (target : Option ℕ) (channel : Channel) → linked_thread state.rows thread ≡ target →
      IsFound t (channel_of state.channels text) channel
      → Kept (sent thread text target (channels.transfers state.channels t thread text target channel))
  by_owner thread text None channel named found = refused thread text None (channels.id_message (codes "thread \"") thread (codes "\" does not exist"))
  by_owner thread text (Some to) channel named found = go (to == t) refl
    where
      target : IsLinked state.rows to
      target = linked_is state.rows thread to named

      place : (events : List Event) × (queue_of state.queues to ≡ Some events)
      place = has_queue state to target.row kept.queues target.there

      go : (b : Bool) → (to == t) ≡ b
          → Kept (sent thread text (Some to)
          (if b then replies.answers state.channels (reply.Value []) else
          replies.answers
          (Rattle.tt_chans.specs.Channels.with_channel state.channels text (Rattle.tt_chans.specs.Ends.with_owner channel (Moving (Some t) to))) reply.Go))
      go true is = kept
      go false is =
          kept_of _ (many_mail state.queues to false (event.Moved text) ∙ kept.queues)
          (by_sent state.queues state.rows state.channels t to place.0 text channel (all_of state kept) found.there found.owner lives target.living
          (λ same. deciding.differs to t is (sym same)) place.1)

  by_transfer : (thread text : List ℕ) → Kept (on_channels state t (chan.Transfer thread text)).state
  by_transfer thread text = go (is_standard text)
    where
      target : Option ℕ
      target = linked_thread state.rows thread

      own : (found : Option Channel) → own_channel t (channel_of state.channels text) ≡ found
          → Kept (sent thread text (linked_thread state.rows thread)
          (channels.if_owned (channels.transfers state.channels t thread text (linked_thread state.rows thread)) state.channels t text))
      own None is = rw (is, channels.if_owned) (refused thread text (linked_thread state.rows thread) _)
      own (Some channel) is =
          rw (is, channels.if_owned) (by_owner thread text (linked_thread state.rows thread) channel refl (owned_is t (channel_of state.channels text) channel is))

      go : (b : Bool) → Kept (sent thread text (linked_thread state.rows thread)
          (if b then replies.refuses state.channels (channels.standard_message text (chan.Transfer thread text)) else
          channels.if_owned (channels.transfers state.channels t thread text (linked_thread state.rows thread)) state.channels t text))
      go true = refused thread text (linked_thread state.rows thread) _
      go false = own (own_channel t (channel_of state.channels text)) refl

  by_channels : (call : ChanCall) → is_transfer call ≡ false → (channels.table_after state.channels t (target_of state call) call).next < 2 ^ 64
      → Kept (record state { channels = channels.table_after state.channels t (target_of state call) call })
  by_channels call other small =
      kept_of _ kept.queues (by_calls state.queues state.rows state.channels t lives drawn (all_of state kept) (target_of state call) call other small)

-- ---- the end of a thread ----

tell_one : (rows : List Row) (t : ℕ) (queues : Queues) (post : VariablePost) → SameArrivals queues (with_died_event rows t queues post)
    × (length (with_died_event rows t queues post) ≡ length queues)
tell_one rows t queues post = go (hears rows t post)
  where
    go : (b : Bool) → SameArrivals queues (if b then queues_with_event queues post.sender false (end_event post.name) else queues)
        × (length (if b then queues_with_event queues post.sender false (end_event post.name) else queues) ≡ length queues)
    go true = (by_mail queues post.sender false (end_event post.name) (λ text. refl), many_mail queues post.sender false (end_event post.name))
    go false = (λ u text. refl, refl)

tell : (rows : List Row) (t : ℕ) (posts : List VariablePost) (queues : Queues) → SameArrivals queues (tells_died rows t posts queues)
    × (length (tells_died rows t posts queues) ≡ length queues)
tell rows t [] queues = (λ u text. refl, refl)
tell rows t (post ∷ posts) queues =
    let first = tell_one rows t queues post in
    let later = tell rows t posts (with_died_event rows t queues post) in
    (λ u text. later.0 u text ∙ first.0 u text, later.1 ∙ first.1)

by_end : (state : State) (t : ℕ) (code : ℤ) → Kept state → IsDrawn state.channels → Kept (state_after_end state t code)
by_end state t code kept drawn =
    let told = tell state.rows t (values_of state.posts.variables) state.queues in
    let queues = tells_died state.rows t (values_of state.posts.variables) state.queues in
    kept_of _ (many_emptied queues t ∙ told.1 ∙ kept.queues ∙ sym (many_end state.rows t code))
    (by_ending state.queues queues state.rows state.channels t code told.0 drawn (all_of state kept))

-- ---- all actions ----

pub kept_after : (state : State) (t : ℕ) (request : Request) (line : Line) → is_living state.rows t ≡ true → Kept state → IsDrawn state.channels
    → (act state t request line).state.channels.next < 2 ^ 64 → Kept (act state t request line).state
kept_after state t (ask.Chan (chan.Transfer thread text)) line lives kept drawn small = by_transfer state t lives kept drawn thread text
kept_after state t (ask.Chan call) line lives kept drawn small = by_channels state t lives kept drawn call refl small
kept_after state t (ask.Pool call) line lives kept drawn small =
    by_answered state t (pools.act_or_wait state.pools t (room state) (is_marked state t) call) lives kept
kept_after state t ask.Take line lives kept drawn small = by_taking state t lives kept
kept_after state t ask.TakeReady line lives kept drawn small = by_taking state t lives kept
kept_after state t (ask.End code) line lives kept drawn small = by_end state t code kept drawn
kept_after state t (ask.Tsv call) line lives kept drawn small = record { queues = kept.queues; arrive = kept.arrive; live = kept.live }
kept_after state t (ask.Lock call) line lives kept drawn small = record { queues = kept.queues; arrive = kept.arrive; live = kept.live }
kept_after state t request line lives kept drawn small = mild_kept state _ (mild state t request line refl) kept

along : (old new : State) (actions : List Action) → Kept old → IsDrawn old.channels → Acts old actions new → NumbersFit new → Kept new
along old new [] kept drawn none small = kept
along old new (action ∷ actions) kept drawn (more can rest) small =
    let next = after old action in
    let fits : next.channels.next < 2 ^ 64 = omega (arith, small, (up_along next new actions rest).up) in
    along next new actions
    (kept_after old action.thread action.request action.line can.lives kept drawn fits)
    ((up_after old action.thread action.request action.line).drawn fits drawn)
    rest small

at_start : (main : Start) → Kept (start_state main)
at_start main = record { queues = refl; arrive = λ u text. no_events u text; live = λ text. tt }
  where
    no_events : (u : ℕ) (text : List ℕ) → arrivals ([] ∷ []) u text ≡ 0
    no_events u text = by_new [] u text ∙ nobody (u == 0)
      where
        nobody : (b : Bool) → count text (events_in (if b then None else None)) ≡ 0
        nobody true = refl
        nobody false = refl

pub reached_kept : (state : State) → Reached state → NumbersFit state → Kept state
reached_kept state reached small = along (start_state reached.main) state reached.actions (at_start reached.main) none_drawn reached.acts small

-- ---- in words ----

is_kept : (state : State) (text : List ℕ) (owner : Owner) → ((u : ℕ) → arrivals state.queues u text ≡ expected (Some owner) u) →
    OwnerLives state.rows owner → IsKept state text owner
is_kept state text (Thread t) arrive live = live
is_kept state text Detached arrive live = tt
is_kept state text (Moving from to) arrive live = (live.0, arrive to ∙ ap deciding.one_if (deciding.itself to))

pub are_kept : (state : State) → Kept state → AreKept state
are_kept state kept text = go (owner_at state.channels text) (λ u. kept.arrive u text) (kept.live text)
  where
    go : (found : Option Owner) → ((u : ℕ) → arrivals state.queues u text ≡ expected found u) → IfSome found (OwnerLives state.rows) →
        IfSome found (IsKept state text)
    go None arrive live = tt
    go (Some owner) arrive live = is_kept state text owner arrive live

pub channels_kept : ChannelsAreKeptLaw
channels_kept state reached small = are_kept state (reached_kept state reached small)
