-- Ids of channels are drawn upwards: each that is there has a number that was drawn, and none is there twice.
use Rattle.std.proofs.Common.{◌≡◌, ◌≢◌, ◌+◌, ◌*◌, ◌≤◌, ◌<◌, ◌^◌, ℕ, Bool, true, false, if◌then◌else◌, List, [], ◌∷◌}
use Rattle.std.proofs.Common.{length, Option, Some, None, IfSome, refl, sym, subst, arith}
use Rattle.std.specs.Map.{remove_entry}
use Rattle.tt_calls.specs.declared.request.Request.{Request}
use Rattle.tt_chans.specs.Channels.{ChannelTable, channel_of, after_arrival, with_entry, no_channels, owner_given, read_end}
use Rattle.tt_chans.specs.Channels.{read_id, table_after_end, with_channel, with_pipe, without_channel, write_end}
use Rattle.tt_chans.specs.Channels.{write_id}
use Rattle.tt_chans.specs.Ends.{after_end, stays_open, with_owner}
use Rattle.tt_chans.specs.declared.channel.Channel.{Channel}
use Rattle.laws_shared.proofs.Apart.{AreApart, apart-ended, apart-insert, apart-remove, apart-set, left, left-is, other_key, remove_here}
use Rattle.laws_shared.proofs.ChannelCalls.{by_call}
use Rattle.laws_shared.proofs.Channels.{by_action}
use Rattle.laws_shared.proofs.Tables.{at, by_insert, by_remove, by_set, is_key, same_key}
use Rattle.laws_shared.specs.Actions.{Action, Acts, NumbersFit, Reached, after, more, none}
use Rattle.tt_ids.proofs.CallerLemmas.{ids_differ}
use Rattle.tt_ids.specs.Ids.{id}
use Rattle.tt_ids.specs.declared.id.IdKind.TheVariants.{Channel as OfChannel}
use Rattle.tt_shared.specs.Acts.{act, target_of}
use Rattle.tt_shared.specs.State.{State, start_state}
use Rattle.tt_shared.specs.declared.applied.Line.{Line}

-- ---- ids ----

-- the id has a number that was drawn
abbrev pub IsUsed : (next : ℕ) → List ℕ → Type 0
IsUsed next text = (m : ℕ) × (m < next) × (text ≡ id OfChannel m)

pub record IsDrawn (table : ChannelTable) : Type 0 where
  pub used : (text : List ℕ) → IfSome (channel_of table text) (λ channel. IsUsed table.next text)
  pub apart : AreApart table.channels

pub none_drawn : IsDrawn no_channels
none_drawn = record { used = λ text. tt; apart = tt }

-- a number that was not drawn yet
pub unused : (table : ChannelTable) (n : ℕ) → IsDrawn table → table.next ≤ n → n < 2 ^ 64 → channel_of table (id OfChannel n) ≡ None
unused table n drawn later small = go (channel_of table (id OfChannel n)) (drawn.used (id OfChannel n))
  where
    go : (found : Option Channel) → IfSome found (λ channel. IsUsed table.next (id OfChannel n)) → found ≡ None
    go None is = refl
    go (Some channel) is =
        let m = is.0 in
        let below : m < table.next = is.1 in
        let fits : m < 2 ^ 64 = omega arith in
        let same : n ≡ m = ids_differ OfChannel n m small fits is.2 in
        absurd (omega (arith, same, below, later))

-- ---- each change ----

later : (found : Option Channel) (text : List ℕ) (n m : ℕ) → n ≤ m → IfSome found (λ channel. IsUsed n text) → IfSome found (λ channel. IsUsed m text)
later None text n m le is = tt
later (Some channel) text n m le is = (is.0, omega (arith, is.1), is.2)

module _ (table : ChannelTable) (drawn : IsDrawn table) where
  pub by_channel : (text : List ℕ) (old new : Channel) → channel_of table text ≡ Some old → IsDrawn (with_channel table text new)
  by_channel text old new there = record {
    used = λ other. by_set (λ found. IfSome found (λ channel. IsUsed table.next other)) other text table.channels new
        (λ same had. subst (λ found. IfSome found (λ channel. IsUsed table.next other)) there had) (drawn.used other);
    apart = apart-set text table.channels new drawn.apart;
  }

  pub by_close : (text : List ℕ) → IsDrawn (without_channel table text)
  by_close text = record { used = λ other. go other (is_key text other) refl; apart = apart-remove text table.channels drawn.apart }
    where
      go : (other : List ℕ) (b : Bool) → is_key text other ≡ b →
          IfSome (at other (remove_entry (is_key text) table.channels)) (λ channel. IsUsed table.next other)
      go other true same =
          let none : at other (remove_entry (is_key text) table.channels) ≡ None =
          subst (λ one. at one (remove_entry (is_key text) table.channels) ≡ None) (same_key text other same) (remove_here text table.channels drawn.apart) in
          subst (λ found. IfSome found (λ channel. IsUsed table.next other)) (sym none) tt
      go other false same =
          by_remove (λ found. IfSome found (λ channel. IsUsed table.next other)) other text table.channels (other_key text other same) (drawn.used other)

  pub by_end : (t : ℕ) → IsDrawn (table_after_end table t)
  by_end t = record {
    used = λ text. subst (λ found. IfSome found (λ channel. IsUsed table.next text))
        (sym (left-is (stays_open t) (after_end t) text table.channels drawn.apart)) (go text (channel_of table text) (drawn.used text));
    apart = apart-ended (stays_open t) (after_end t) table.channels drawn.apart;
  }
    where
      go : (text : List ℕ) (found : Option Channel) → IfSome found (λ channel. IsUsed table.next text) →
          IfSome (left (stays_open t) (after_end t) found) (λ channel. IsUsed table.next text)
      go text None is = tt
      go text (Some channel) is = either (stays_open t channel)
        where
          either : (b : Bool) → IfSome (if b then Some (after_end t channel) else None) (λ channel. IsUsed table.next text)
          either true = is
          either false = tt

-- ---- a pipe more ----

-- the two ids of a new pipe differ, and are new
pub ids_apart : (table : ChannelTable) → table.next + 2 < 2 ^ 64 → write_id table ≢ read_id table
ids_apart table small same =
    let is : table.next + 1 ≡ table.next = ids_differ OfChannel (table.next + 1) table.next (omega arith) (omega arith) same in
    omega (arith, is)

pub read_new : (table : ChannelTable) → IsDrawn table → table.next + 2 < 2 ^ 64 → channel_of table (read_id table) ≡ None
read_new table drawn small = unused table table.next drawn (omega arith) (omega arith)

pub write_new : (table : ChannelTable) → IsDrawn table → table.next + 2 < 2 ^ 64 → channel_of table (write_id table) ≡ None
write_new table drawn small = unused table (table.next + 1) drawn (omega arith) (omega arith)

-- what is found after a pipe was made
pub by_pipe : (P : Option Channel → Type 0) (table : ChannelTable) (t : ℕ) (text : List ℕ)
    → (text ≡ read_id table → P (Some (read_end table t))) → (text ≡ write_id table → P (Some (write_end table t)))
    → P (channel_of table text) → P (channel_of (with_pipe table t) text)
by_pipe P table t text reads writes is =
    by_insert P text (write_id table) (with_entry table.channels (read_id table) (read_end table t)) (write_end table t) writes
    (by_insert P text (read_id table) table.channels (read_end table t) reads is)

pub pipe_drawn : (table : ChannelTable) (t : ℕ) → IsDrawn table → table.next + 2 < 2 ^ 64 → IsDrawn (with_pipe table t)
pipe_drawn table t drawn small =
    let with_reader = with_entry table.channels (read_id table) (read_end table t) in
    let still_new =
    by_insert (λ found. found ≡ None) (write_id table) (read_id table) table.channels (read_end table t)
    (λ same. absurd (ids_apart table small same)) (write_new table drawn small) in
    record {
      used = λ text. by_pipe (λ found. IfSome found (λ channel. IsUsed (table.next + 2) text)) table t text
          (λ same. (table.next, omega arith, same))
          (λ same. (table.next + 1, omega arith, same))
          (later (channel_of table text) text table.next (table.next + 2) (omega arith) (drawn.used text));
      apart = apart-insert (write_id table) with_reader (write_end table t) still_new
          (apart-insert (read_id table) table.channels (read_end table t) (read_new table drawn small) drawn.apart);
    }

-- ---- an action ----

-- the numbers go upwards, by two at most, and stay drawn while they fit
pub record GoesUp (old new : ChannelTable) : Type 0 where
  pub up : old.next ≤ new.next
  pub few : new.next ≤ old.next + 2
  pub drawn : new.next < 2 ^ 64 → IsDrawn old → IsDrawn new

stays : (table : ChannelTable) → GoesUp table table
stays table = record { up = omega arith; few = omega arith; drawn = λ small drawn. drawn }

comes : (table : ChannelTable) (t : ℕ) (text : List ℕ) (found : Option Channel) → channel_of table text ≡ found → GoesUp table (after_arrival table t text found)
comes table t text None is = stays table
comes table t text (Some channel) is = record {
  up = omega arith;
  few = omega arith;
  drawn = λ small drawn. by_channel table drawn text channel (with_owner channel (owner_given t channel.owner)) is;
}

pub up_after : (state : State) (t : ℕ) (request : Request) (line : Line) → GoesUp state.channels (act state t request line).state.channels
up_after state t request line =
    let table = state.channels in
    by_action (GoesUp table) state t (stays table) (λ text. comes table t text (channel_of table text) refl) request line
    (λ call asks. by_call (GoesUp table) table t (target_of state call) (stays table) call
    (λ text old new there changes. record { up = omega arith; few = omega arith; drawn = λ small drawn. by_channel table drawn text old new there })
    (λ text old is found. record { up = omega arith; few = omega arith; drawn = λ small drawn. by_close table drawn text })
    (λ is. record { up = omega arith; few = omega arith; drawn = λ small drawn. pipe_drawn table t drawn small }))
    (λ code asks. record { up = omega arith; few = omega arith; drawn = λ small drawn. by_end table drawn t })

-- ---- a list of actions ----

pub record GoUp (old new : ChannelTable) (count : ℕ) : Type 0 where
  pub up : old.next ≤ new.next
  pub few : new.next ≤ old.next + 2 * count
  pub drawn : new.next < 2 ^ 64 → IsDrawn old → IsDrawn new

pub up_along : (old new : State) (actions : List Action) → Acts old actions new → GoUp old.channels new.channels (length actions)
up_along old new [] none = record { up = omega arith; few = omega arith; drawn = λ small drawn. drawn }
up_along old new (action ∷ actions) (more can rest) =
    let first = up_after old action.thread action.request action.line in
    let others = up_along (after old action) new actions rest in
    record {
      up = omega (arith, first.up, others.up);
      few = omega (arith, first.few, others.few);
      drawn = λ small drawn. others.drawn small (first.drawn (omega (arith, small, others.up)) drawn);
    }

-- what a run reaches is drawn
pub reached_drawn : (state : State) → Reached state → NumbersFit state → IsDrawn state.channels
reached_drawn state reached small = (up_along (start_state reached.main) state reached.actions reached.acts).drawn small none_drawn

-- so few of them fit
pub few_fit : (next count : ℕ) → next ≤ 1 + 2 * count → count ≤ 16777216 → next < 2 ^ 64
few_fit next count few small = omega (arith, few, small)
