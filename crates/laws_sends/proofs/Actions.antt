-- What each action does to sends.
use Rattle.std.proofs.Common.{◌≡◌, ◌∙◌, ℕ, flat_map, Bool, true, false, if◌then◌else◌, List, [], ◌∷◌, length, Option, Some, None, ap, refl, sym, subst}
use Rattle.std.specs.Map.{values_of}
use Rattle.laws_sends.proofs.Broadcasts.{by_broadcasts}
use Rattle.laws_sends.proofs.Cuts.{Every, every-append}
use Rattle.laws_sends.proofs.Moves.{Moves, both, one, quiet}
use Rattle.laws_sends.proofs.Pools.{BeginsNothing, answers_no_event}
use Rattle.laws_sends.proofs.Requests.{by_awaits, by_creates, by_delivers, by_end, by_hold, by_names, by_reads, by_reports, by_rows, by_sends, by_starts}
use Rattle.laws_sends.proofs.Requests.{by_stops, by_takes, mail, quietly, still, taking}
use Rattle.laws_sends.proofs.Threads.{stay_same}
use Rattle.laws_sends.proofs.Views.{OfOthers, has_ended, scripts_at}
use Rattle.laws_shared.proofs.Arrivals.{many_emptied, many_mail}
use Rattle.laws_shared.proofs.Lives.{many_end}
use Rattle.laws_shared.proofs.Mild.{HaveQueues, mild}
use Rattle.laws_shared.proofs.Mild as mildly
use Rattle.laws_shared.proofs.Numbered.{length-put}
use Rattle.laws_shared.specs.Actions.{Moment, after}
use Rattle.laws_shared.specs.Happenings.{Owner, begin_happenings, happenings_by, happens, holds_changed, holds_of, is_owner, lock_named, owner_changed}
use Rattle.laws_shared.specs.Happenings.{owners_changed}
use Rattle.laws_shared.specs.Owners.{owner_at}
use Rattle.tt_calls.specs.declared.chan_call.ChanCall.{ChanCall}
use Rattle.tt_calls.specs.declared.chan_call.ChanCall.TheVariants as chan
use Rattle.tt_calls.specs.declared.event.Event.{Event}
use Rattle.tt_calls.specs.declared.event.Event.TheVariants as event
use Rattle.tt_calls.specs.declared.pool_call.PoolCall.{PoolCall}
use Rattle.tt_calls.specs.declared.reply.Reply.{Reply}
use Rattle.tt_calls.specs.declared.reply.Reply.TheVariants as reply
use Rattle.tt_calls.specs.declared.reply.Step.{Step}
use Rattle.tt_calls.specs.declared.reply.Step.TheVariants as step
use Rattle.tt_calls.specs.declared.request.Request.{Request}
use Rattle.tt_calls.specs.declared.request.Request.TheVariants as ask
use Rattle.tt_chans.specs.Calls as channels
use Rattle.tt_chans.specs.Channels.{ChannelTable}
use Rattle.tt_chans.specs.declared.channel.Channel.{Channel}
use Rattle.tt_pools.specs.Calls as pools
use Rattle.tt_pools.specs.declared.step.PoolStep.{PoolStep}
use Rattle.tt_shared.specs.Acts.{act, gives_of, moves, on_pools, target_of}
use Rattle.tt_shared.specs.Ends.{end_event, hears, tells_died, with_died_event}
use Rattle.tt_shared.specs.Mail.{Queues, queue_of, queues_with_event, with_queue}
use Rattle.tt_shared.specs.Sends.{come, takes}
use Rattle.tt_shared.specs.State.{State, is_marked, room}
use Rattle.tt_shared.specs.declared.applied.Line.{Line}
use Rattle.tt_shared.specs.declared.posts.VariablePost.{VariablePost}
use Rattle.tt_slots.specs.Waiting.{slot_of}
use Rattle.tt_threads.specs.Requests as threads
use Rattle.tt_threads.specs.Rows.{is_living}
use Rattle.tt_threads.specs.declared.row.Row.{Row}

-- ---- locks, pools and channels ----

by_locks : (state new : State) (t : ℕ) (named : Option (List ℕ)) → new.queues ≡ state.queues → new.posts ≡ state.posts → new.rows ≡ state.rows
    → Moves state new (holds_changed state.locks new.locks t named)
by_locks state new t None queues posts rows = quietly state new queues posts rows
by_locks state new t (Some text) queues posts rows =
    one (quiet _ (by_hold text t (holds_of state.locks text t) (holds_of new.locks text t)) (λ u. ap (λ all. scripts_at all u) queues) posts
    (λ u is. ap (λ all. has_ended all u) rows ∙ is))

by_gives : (state : State) (t : ℕ) (gives : PoolStep) → is_living state.rows t ≡ true → BeginsNothing gives.step
    → Moves state (gives_of state t gives).state (begin_happenings t (gives_of state t gives).gives.reply)
by_gives state t gives lives nothing = go gives.step refl nothing
  where
    go : (what : Step) → gives.step ≡ what → BeginsNothing what
        → Moves state (gives_of state t gives).state (begin_happenings t (gives_of state t gives).gives.reply)
    go step.Wait is nothing = rw is (by_takes state t lives)
    go (step.Reply answered) is nothing = rw is (subst (Moves state _) (sym (nothing t)) (by_starts state gives.start gives.worker))

by_pools : (state : State) (t : ℕ) (call : PoolCall) → is_living state.rows t ≡ true
    → Moves state (on_pools state t call).state (begin_happenings t (on_pools state t call).gives.reply)
by_pools state t call lives =
    let answered = pools.act_or_wait state.pools t (room state) (is_marked state t) call in
    both (quietly state (record state { pools = answered.table }) refl refl refl)
    (by_gives (record state { pools = answered.table }) t answered.gives lives (answers_no_event state.pools t (room state) (is_marked state t) call))

by_moves : (state : State) (call : ChanCall) (target : Option ℕ) (answered : Reply) → Moves state (moves state call target answered) []
by_moves state (chan.Transfer text channel) (Some target) reply.Go = mail state target false (event.Moved channel) (λ numbers. refl)
by_moves state call target answered = still state

by_channels : (state : State) (t : ℕ) (call : ChanCall) (line : Line) → Moves state (act state t (ask.Chan call) line).state []
by_channels state t call line =
    let target = target_of state call in
    both (quietly state (record state { channels = channels.table_after state.channels t target call }) refl refl refl)
    (by_moves (record state { channels = channels.table_after state.channels t target call }) call target _)

-- ---- all requests ----

by_request : (state : State) (t : ℕ) (request : Request) (line : Line) → HaveQueues state → is_living state.rows t ≡ true
    → Moves state (act state t request line).state (happens state (act state t request line).state t request (act state t request line).gives.reply)
by_request state t (ask.WriteOut text) line have lives = still state
by_request state t (ask.WriteErr text) line have lives = still state
by_request state t ask.ReadLine line have lives = by_reads state line
by_request state t ask.StdinEof line have lives = still state
by_request state t (ask.Create joinable preserved script) line have lives = by_creates state joinable preserved script
by_request state t (ask.Release text) line have lives = by_stops state _ (threads.thread_named state.rows t text) (by_rows state t (ask.Release text))
by_request state t (ask.ErrorProc name) line have lives = by_names state t name
by_request state t (ask.Send text script mode variable head) line have lives = by_sends state t text script mode variable head have
by_request state t (ask.Await n) line have lives = by_awaits state t n (slot_of state.posts.slots n) refl
by_request state t ask.Take line have lives = by_takes state t lives
by_request state t ask.TakeReady line have lives = by_takes state t lives
by_request state t (ask.Deliver n outcome) line have lives = by_delivers state t n outcome (slot_of state.posts.slots n) refl
by_request state t (ask.Report trace plain) line have lives = by_reports state t trace plain have
by_request state t (ask.Broadcast script) line have lives = by_broadcasts t script state have
by_request state t (ask.Tsv call) line have lives = quietly state _ refl refl refl
by_request state t (ask.Lock call) line have lives = by_locks state _ t (lock_named call) refl refl refl
by_request state t (ask.Pool call) line have lives = by_pools state t call lives
by_request state t (ask.Chan call) line have lives = by_channels state t call line
by_request state t (ask.DropTimer number) line have lives = still state
by_request state t ask.AwaitTime line have lives = still state
by_request state t ask.Pause line have lives = still state
by_request state t (ask.End code) line have lives = by_end state t code lives
by_request state t (ask.Exit code) line have lives = quietly state _ refl refl refl
by_request state t request line have lives = by_rows state t request

-- ---- each thread has a queue ----

takes_many : (state : State) (t : ℕ) → HaveQueues state → HaveQueues (takes state t).state
takes_many state t have = go (queue_of state.queues t) refl
  where
    come_many : (old : State) (what : Event) → HaveQueues old → HaveQueues (come old t what)
    come_many old (event.Moved channel) is = is
    come_many old (event.Script n script answer plain) is = is
    come_many old (event.SetVar name value) is = is
    come_many old (event.Timer n script) is = is
    come_many old event.Stop is = is

    go : (found : Option (List Event)) → queue_of state.queues t ≡ found → HaveQueues (takes state t).state
    go None there = rw there have
    go (Some []) there = rw there have
    go (Some (what ∷ events)) there =
        subst (λ acted. HaveQueues acted.state) (sym (taking state t what events there))
        (come_many (record state { queues = with_queue state.queues t events }) what (length-put state.queues _ events ∙ have))

gives_many : (state : State) (t : ℕ) (gives : PoolStep) → HaveQueues state → HaveQueues (gives_of state t gives).state
gives_many state t gives have = go gives.step refl
  where
    go : (what : Step) → gives.step ≡ what → HaveQueues (gives_of state t gives).state
    go step.Wait is = rw is (takes_many state t have)
    go (step.Reply answered) is = rw is ((mildly.by_starts state gives.start gives.worker).many have)

moves_many : (state : State) (call : ChanCall) (target : Option ℕ) (answered : Reply) → HaveQueues state → HaveQueues (moves state call target answered)
moves_many state (chan.Transfer text channel) (Some target) reply.Go have = many_mail state.queues target false (event.Moved channel) ∙ have
moves_many state call target answered have = have

tell_many : (rows : List Row) (t : ℕ) (posts : List VariablePost) (queues : Queues) → length (tells_died rows t posts queues) ≡ length queues
tell_many rows t [] queues = refl
tell_many rows t (post ∷ posts) queues = tell_many rows t posts (with_died_event rows t queues post) ∙ go (hears rows t post)
  where
    go : (b : Bool) → length (if b then queues_with_event queues post.sender false (end_event post.name) else queues) ≡ length queues
    go true = many_mail queues post.sender false (end_event post.name)
    go false = refl

pub many : (state : State) (t : ℕ) (request : Request) (line : Line) → HaveQueues state → HaveQueues (act state t request line).state
many state t ask.Take line have = takes_many state t have
many state t ask.TakeReady line have = takes_many state t have
many state t (ask.Tsv call) line have = have
many state t (ask.Lock call) line have = have
many state t (ask.Pool call) line have =
    let answered = pools.act_or_wait state.pools t (room state) (is_marked state t) call in
    gives_many (record state { pools = answered.table }) t answered.gives have
many state t (ask.Chan call) line have =
    let target = target_of state call in
    moves_many (record state { channels = channels.table_after state.channels t target call }) call target _ have
many state t (ask.End code) line have =
    many_emptied (tells_died state.rows t (values_of state.posts.variables) state.queues) t
    ∙ tell_many state.rows t (values_of state.posts.variables) state.queues ∙ have ∙ sym (many_end state.rows t code)
many state t request line have = (mild state t request line refl).many have

-- ---- whole actions ----

pub by_owners : (old new : ChannelTable) → Every OfOthers (owners_changed old new)
by_owners old new = go new.channels
  where
    one_owner : (entry : List ℕ × Channel) (b : Bool) → Every OfOthers (if b then [] else Owner entry.0 entry.1.owner ∷ [])
    one_owner entry true = tt
    one_owner entry false = (tt, tt)

    go : (entries : List (List ℕ × Channel)) → Every OfOthers (flat_map (owner_changed old) entries)
    go [] = tt
    go (entry ∷ entries) = every-append OfOthers (owner_changed old entry) _ (one_owner entry (is_owner (owner_at old entry.0) entry.1.owner)) (go entries)

pub by_action : (moment : Moment) → HaveQueues moment.before → is_living moment.before.rows moment.action.thread ≡ true
    → Moves moment.before (after moment.before moment.action) (happenings_by moment)
by_action moment have lives =
    let old = moment.before in
    let action = moment.action in
    let new = after moment.before moment.action in
    both (by_request old action.thread action.request action.line have lives)
    (one (quiet _ (by_owners old.channels new.channels) (λ u. refl) refl (stay_same new.rows)))
