-- Channels that are not closed are kept: owned by who lives, or on their way to who lives.
use Rattle.std.proofs.Common.{◌≡◌, ◌≢◌, ◌∙◌, ◌+◌, ◌<◌, ◌^◌, ◌==◌, ℕ, Bool, true, false, cond, if◌then◌else◌, List}
use Rattle.std.proofs.Common.{Option, Some, None, IfSome, ap, refl, sym, subst, arith}
use Rattle.std.specs.Bool.{⊤}
use Rattle.tt_calls.specs.declared.chan_call.ChanCall.{ChanCall}
use Rattle.tt_calls.specs.declared.chan_call.ChanCall.TheVariants as chan
use Rattle.tt_calls.specs.declared.event.Event.{Event}
use Rattle.tt_calls.specs.declared.event.Event.TheVariants as event
use Rattle.tt_chans.specs.Calls.{table_after}
use Rattle.tt_chans.specs.Channels.{ChannelTable, channel_of, with_channel, with_pipe, without_channel}
use Rattle.tt_chans.specs.Ends.{with_owner}
use Rattle.tt_chans.specs.declared.channel.Channel.{Channel}
use Rattle.tt_chans.specs.declared.channel.Owner.{Owner}
use Rattle.tt_chans.specs.declared.channel.Owner.TheVariants.{Thread, Detached, Moving}
use Rattle.laws_shared.proofs.Deciding as deciding
use Rattle.laws_shared.proofs.Apart.{other_key, remove_here}
use Rattle.laws_shared.proofs.Arrivals.{by_sending, weight}
use Rattle.laws_shared.proofs.ChannelCalls.{Changes, attached, by_call, detached, moved, speaks}
use Rattle.laws_shared.proofs.Channels.{IsFound}
use Rattle.laws_shared.proofs.Drawn.{IsDrawn, by_pipe, read_new, write_new}
use Rattle.laws_shared.proofs.Mild.{HaveQueues, Mild}
use Rattle.laws_shared.proofs.Tables.{by_remove, by_set, is_key, same_key, set_here}
use Rattle.laws_shared.specs.KeptChannels.{arrivals}
use Rattle.laws_shared.specs.Owners.{owner_at, owner_in}
use Rattle.tt_shared.specs.Mail.{Queues, queue_of, queues_with_event}
use Rattle.tt_shared.specs.State.{State}
use Rattle.tt_threads.specs.Rows.{is_living}
use Rattle.tt_threads.specs.declared.row.Row.{Row}

-- how many events bring a channel to a thread, by its owner
abbrev pub expected : Option Owner → ℕ → ℕ
expected (Some (Moving from to)) u = if to == u then 1 else 0
expected other u = 0

-- who has to do with a channel lives
abbrev pub SendersLive : List Row → Option ℕ → (to : ℕ) → Type 0
SendersLive rows None to = ⊤
SendersLive rows (Some from) to = (is_living rows from ≡ true) × (from ≢ to)

abbrev pub OwnerLives : List Row → Owner → Type 0
OwnerLives rows (Thread t) = is_living rows t ≡ true
OwnerLives rows Detached = ⊤
OwnerLives rows (Moving from to) = (is_living rows to ≡ true) × SendersLive rows from to

-- the same of each channel, for some queues and rows
abbrev pub Arrive : Queues → ChannelTable → Type 0
Arrive queues table = (u : ℕ) (text : List ℕ) → arrivals queues u text ≡ expected (owner_at table text) u

abbrev pub Live : List Row → ChannelTable → Type 0
Live rows table = (text : List ℕ) → IfSome (owner_at table text) (OwnerLives rows)

pub record Kept (state : State) : Type 0 where
  pub queues : HaveQueues state
  pub arrive : Arrive state.queues state.channels
  pub live : Live state.rows state.channels

-- ---- what touches no channel ----

lives_on : (old new : List Row) → ((u : ℕ) → is_living old u ≡ true → is_living new u ≡ true) → (owner : Owner) → OwnerLives old owner → OwnerLives new owner
lives_on old new on (Thread t) live = on t live
lives_on old new on Detached live = tt
lives_on old new on (Moving None to) live = (on to live.0, tt)
lives_on old new on (Moving (Some from) to) live = (on to live.0, (on from live.1.0, live.1.1))

all_on : (old new : List Row) → ((u : ℕ) → is_living old u ≡ true → is_living new u ≡ true) → (found : Option Owner) → IfSome found (OwnerLives old) →
    IfSome found (OwnerLives new)
all_on old new on None live = tt
all_on old new on (Some owner) live = lives_on old new on owner live

pub mild_kept : (old new : State) → Mild old new → Kept old → Kept new
mild_kept old new mild kept = record {
  queues = mild.many kept.queues;
  arrive = λ u text. mild.arrive u text ∙ kept.arrive u text ∙ ap (λ table. expected (owner_at table text) u) (sym mild.channels);
  live = λ text. subst (λ table. IfSome (owner_at table text) (OwnerLives new.rows)) (sym mild.channels)
      (all_on old.rows new.rows mild.live (owner_at old.channels text) (kept.live text));
}

-- ---- an end with another owner ----

-- what holds of a channel by its owner: the events that bring it, and who lives
abbrev pub OwnerHolds : Queues → List Row → (text : List ℕ) → Option Owner → Type 0
OwnerHolds queues rows text owner = ((u : ℕ) → arrivals queues u text ≡ expected owner u) × IfSome owner (OwnerLives rows)

-- a table in which it holds of each
pub record AllHold (queues : Queues) (rows : List Row) (table : ChannelTable) : Type 0 where
  pub each : (text : List ℕ) → OwnerHolds queues rows text (owner_at table text)

by_new : (queues : Queues) (rows : List Row) (table : ChannelTable) (id : List ℕ) (new : Channel) → AllHold queues rows table
    → OwnerHolds queues rows id (Some new.owner) → AllHold queues rows (with_channel table id new)
by_new queues rows table id new all holds = record {
  each = λ text.
      by_set (λ found. OwnerHolds queues rows text (owner_in found)) text id table.channels new
      (λ same had. subst (λ one. OwnerHolds queues rows one (Some new.owner)) (sym same) holds)
      (all.each text);
}

-- ---- a call of a thread that lives ----

abbrev pub is_transfer : ChanCall → Bool
is_transfer (chan.Transfer thread text) = true
is_transfer call = false

module _ (queues : Queues) (rows : List Row) (table : ChannelTable) (t : ℕ) (lives : is_living rows t ≡ true) (drawn : IsDrawn table) (all : AllHold queues rows table) where
  abbrev pub Good : ChannelTable → Type 0
  Good other = other.next < 2 ^ 64 → AllHold queues rows other

  was : (id : List ℕ) (old : Channel) → channel_of table id ≡ Some old → OwnerHolds queues rows id (Some old.owner)
  was id old there = subst (λ found. OwnerHolds queues rows id (owner_in found)) there (all.each id)

  by_change : (call : ChanCall) (target : Option ℕ) (id : List ℕ) (old new : Channel) → is_transfer call ≡ false → channel_of table id ≡ Some old
      → Changes t target call id old new → AllHold queues rows (with_channel table id new)
  by_change call target id old new other there (speaks moves is) =
      by_new queues rows table id new all (subst (λ owner. OwnerHolds queues rows id (Some owner)) (sym is) (was id old there))
  by_change call target id old new other there (detached asks mine is) =
      let had : OwnerHolds queues rows id (Some (Thread t)) = subst (λ owner. OwnerHolds queues rows id (Some owner)) mine (was id old there) in
      let owner : new.owner ≡ Detached = ap (λ one. one.owner) is in
      by_new queues rows table id new all (subst (λ one. OwnerHolds queues rows id (Some one)) (sym owner) (had.0, tt))
  by_change call target id old new other there (moved asks goes mine is) =
      let both : true ≡ false = sym (ap is_transfer asks) ∙ other in absurd (cc both)
  by_change call target id old new other there (attached asks nobody is) =
      let had : OwnerHolds queues rows id (Some Detached) = subst (λ owner. OwnerHolds queues rows id (Some owner)) nobody (was id old there) in
      let owner : new.owner ≡ Thread t = ap (λ one. one.owner) is in
      by_new queues rows table id new all (subst (λ one. OwnerHolds queues rows id (Some one)) (sym owner) (had.0, lives))

  by_close : (call : ChanCall) (id : List ℕ) (old : Channel) → IsFound t (channel_of table id) old → AllHold queues rows (without_channel table id)
  by_close call id old found = record { each = λ text. go text (is_key id text) refl }
    where
      go : (text : List ℕ) (b : Bool) → is_key id text ≡ b → OwnerHolds queues rows text (owner_at (without_channel table id) text)
      go text true is =
          let same = same_key id text is in
          let had : OwnerHolds queues rows id (Some (Thread t)) =
          subst (λ owner. OwnerHolds queues rows id (Some owner)) found.owner (was id old found.there) in
          let none : owner_at (without_channel table id) id ≡ None = ap owner_in (remove_here id table.channels drawn.apart) in
          subst (λ one. OwnerHolds queues rows one (owner_at (without_channel table id) one)) same
          (subst (λ owner. OwnerHolds queues rows id owner) (sym none) (had.0, tt))
      go text false is = by_remove (λ found. OwnerHolds queues rows text (owner_in found)) text id table.channels (other_key id text is) (all.each text)

  by_new_pipe : table.next + 2 < 2 ^ 64 → AllHold queues rows (with_pipe table t)
  by_new_pipe small = record {
    each = λ text.
        by_pipe (λ found. OwnerHolds queues rows text (owner_in found)) table t text
        (λ same. fresh text (ap (owner_at table) same ∙ ap owner_in (read_new table drawn small)))
        (λ same. fresh text (ap (owner_at table) same ∙ ap owner_in (write_new table drawn small)))
        (all.each text);
  }
    where
      fresh : (text : List ℕ) → owner_at table text ≡ None → OwnerHolds queues rows text (Some (Thread t))
      fresh text none = ((subst (λ owner. OwnerHolds queues rows text owner) none (all.each text)).0, lives)

  pub by_calls : (target : Option ℕ) (call : ChanCall) → is_transfer call ≡ false → Good (table_after table t target call)
  by_calls target call other =
      by_call Good table t target (λ small. all) call
      (λ id old new there changes small. by_change call target id old new other there changes)
      (λ id old closes found small. by_close call id old found)
      (λ is small. by_new_pipe small)

-- ---- a channel that is sent ----

pub by_sent : (queues : Queues) (rows : List Row) (table : ChannelTable) (t to : ℕ) (events : List Event) (id : List ℕ) (channel : Channel) →
    AllHold queues rows table
    → channel_of table id ≡ Some channel → channel.owner ≡ Thread t → is_living rows t ≡ true → is_living rows to ≡ true → t ≢ to →
    queue_of queues to ≡ Some events
    → AllHold (queues_with_event queues to false (event.Moved id)) rows (with_channel table id (with_owner channel (Moving (Some t) to)))
by_sent queues rows table t to events id channel all there mine lives target differs place = record { each = λ text. go text (is_key text id) refl }
  where
    sent : Queues
    sent = queues_with_event queues to false (event.Moved id)

    new : Channel
    new = with_owner channel (Moving (Some t) to)

    none : (u : ℕ) → arrivals queues u id ≡ 0
    none u =
        let owned : owner_at table id ≡ Some (Thread t) = ap owner_in there ∙ ap Some mine in
        (all.each id).0 u ∙ ap (λ owner. expected owner u) owned

    one : (u : ℕ) → arrivals sent u id ≡ (if to == u then 1 else 0)
    one u =
        let itself : weight id (event.Moved id) ≡ 1 = ap (λ b. cond b 1 0) (deciding.text_itself id) in
        by_sending queues to u events id id place
        ∙ ap (λ n. n + (if u == to then weight id (event.Moved id) else 0)) (none u)
        ∙ ap (λ n. 0 + (if u == to then n else 0)) itself
        ∙ ap (λ b. 0 + (if b then 1 else 0)) (deciding.flipped u to)
        ∙ omega arith

    others : (text : List ℕ) → text ≢ id → (u : ℕ) → arrivals sent u text ≡ arrivals queues u text
    others text other u =
        let not_it : weight text (event.Moved id) ≡ 0 = ap (λ b. cond b 1 0) (deciding.texts_apart id text (λ is. other (sym is))) in
        by_sending queues to u events id text place ∙ ap (λ n. arrivals queues u text + (if u == to then n else 0)) not_it ∙ nothing (u == to)
      where
        nothing : (b : Bool) → arrivals queues u text + (if b then 0 else 0) ≡ arrivals queues u text
        nothing true = omega arith
        nothing false = omega arith

    go : (text : List ℕ) (b : Bool) → is_key text id ≡ b → OwnerHolds sent rows text (owner_at (with_channel table id new) text)
    go text true is =
        let same : text ≡ id = same_key text id is in
        let put : owner_at (with_channel table id new) id ≡ Some new.owner = ap owner_in (set_here id table.channels new channel there) in
        subst (λ id'. OwnerHolds sent rows id' (owner_at (with_channel table id new) id')) (sym same)
        (subst (λ owner. OwnerHolds sent rows id owner) (sym put) (one, (target, (lives, differs))))
    go text false is =
        let other : text ≢ id = λ same. other_key text id is (sym same) in
        by_set (λ found. OwnerHolds sent rows text (owner_in found)) text id table.channels new (λ same had. absurd (other same))
        ((λ u. others text other u ∙ (all.each text).0 u), (all.each text).1)
