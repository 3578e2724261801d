-- What an action puts into a pipe, what it takes out, and what the pipe has then.
use Rattle.std.proofs.Common.{◌≡◌, ◌∙◌, ◌+◌, ◌<◌, ◌^◌, ℕ, Bool, true, false, if◌then◌else◌, List, [], ◌++◌, Option, Some, None, ap, refl, sym, subst, arith}
use Rattle.std.proofs.lemmas.List.{append-nil}
use Rattle.tt_calls.specs.declared.chan_call.ChanCall.{ChanCall}
use Rattle.tt_calls.specs.declared.request.Request.{Request}
use Rattle.tt_calls.specs.declared.request.Request.TheVariants as ask
use Rattle.tt_chans.proofs.LineLaw.{line}
use Rattle.tt_chans.specs.Channels.{ChannelTable, channel_of, after_arrival, owner_given, read_id, table_after_end, with_channel, with_pipe, without_channel}
use Rattle.tt_chans.specs.Ends.{after_end, stays_open, with_owner}
use Rattle.tt_chans.specs.declared.channel.Channel.{Channel}
use Rattle.laws_shared.proofs.Apart.{left, left-is, other_key, remove_here}
use Rattle.laws_shared.proofs.ChannelCalls.{Changes, attached, by_call, detached, moved, moves_bytes, speaks}
use Rattle.laws_shared.proofs.Channels.{by_action}
use Rattle.laws_shared.proofs.Drawn.{IsDrawn, IsUsed, by_pipe, read_new}
use Rattle.laws_shared.proofs.Tables.{by_remove, by_set, is_key, same_key}
use Rattle.laws_shared.specs.Pipes.{bytes_at, bytes_in, bytes_of}
use Rattle.tt_ids.proofs.CallerLemmas.{ids_differ}
use Rattle.tt_ids.specs.declared.id.IdKind.TheVariants.{Channel as OfChannel}
use Rattle.tt_shared.specs.Acts.{act, target_of}
use Rattle.tt_shared.specs.State.{State}
use Rattle.tt_shared.specs.declared.applied.Line.{Line}

-- a read end before and after: it is open, shut, or new
pub data Flow (next : ℕ) (id : List ℕ) (old new : Option (List ℕ)) (put taken : List ℕ) : Type 0 where
  opened : {before after : List ℕ} → old ≡ Some before → new ≡ Some after → before ++ put ≡ taken ++ after → Flow next id old new put taken
  shut : new ≡ None → put ≡ [] → taken ≡ [] → Flow next id old new put taken
  made : old ≡ None → (IsUsed next id → ⊥) → new ≡ Some [] → put ≡ [] → taken ≡ [] → Flow next id old new put taken

pub flow_same : (next : ℕ) (id : List ℕ) (bytes : Option (List ℕ)) → Flow next id bytes bytes [] []
flow_same next id None = shut refl refl refl
flow_same next id (Some bytes) = opened refl refl (append-nil bytes)

module _ (state : State) (id : List ℕ) (drawn : IsDrawn state.channels) where
  abbrev table : ChannelTable
  table = state.channels

  -- what is found then, if nothing is put in or taken
  abbrev Quiet : Option Channel → Type 0
  Quiet found = Flow table.next id (bytes_at table id) (bytes_in found) [] []

  same : Quiet (channel_of table id)
  same = flow_same table.next id (bytes_at table id)

  -- another owner
  by_owner : (text : List ℕ) (old new : Channel) → channel_of table text ≡ Some old → new.end ≡ old.end → Quiet (channel_of (with_channel table text new) id)
  by_owner text old new there is =
      by_set Quiet id text table.channels new
      (λ here had.
      let found : bytes_at table id ≡ bytes_in (Some new) = ap (bytes_at table) here ∙ ap bytes_in there ∙ ap bytes_of (sym is) in
      subst (λ bytes. Flow table.next id (bytes_at table id) bytes [] []) found same)
      same

  by_change : (call : ChanCall) (t : ℕ) (target : Option ℕ) (text : List ℕ) (old new : Channel) → moves_bytes call ≡ false → channel_of table text ≡ Some old
      → Changes t target call text old new → Quiet (channel_of (with_channel table text new) id)
  by_change call t target text old new quiet there (speaks moves is) = let both : true ≡ false = sym moves ∙ quiet in absurd (cc both)
  by_change call t target text old new quiet there (detached asks mine is) = by_owner text old new there (ap (λ one. one.end) is)
  by_change call t target text old new quiet there (moved asks goes mine is) = by_owner text old new there (ap (λ one. one.end) is)
  by_change call t target text old new quiet there (attached asks nobody is) = by_owner text old new there (ap (λ one. one.end) is)

  by_close : (text : List ℕ) → Quiet (channel_of (without_channel table text) id)
  by_close text = go (is_key text id) refl
    where
      go : (b : Bool) → is_key text id ≡ b → Quiet (channel_of (without_channel table text) id)
      go true is =
          let none = remove_here text table.channels drawn.apart in
          shut (ap (λ one. bytes_at (without_channel table text) one) (sym (same_key text id is)) ∙ ap bytes_in none) refl refl
      go false is = by_remove Quiet id text table.channels (other_key text id is) same

  by_new_pipe : (t : ℕ) → table.next + 2 < 2 ^ 64 → Quiet (channel_of (with_pipe table t) id)
  by_new_pipe t small =
      by_pipe Quiet table t id
      (λ here. made (ap (bytes_at table) here ∙ ap bytes_in (read_new table drawn small)) (not_used here) refl refl refl)
      (λ here. shut refl refl refl)
      same
    where
      not_used : id ≡ read_id table → IsUsed table.next id → ⊥
      not_used here used =
          let m = used.0 in
          let below : m < table.next = used.1 in
          let is : table.next ≡ m = ids_differ OfChannel table.next m (omega arith) (omega arith) (sym here ∙ used.2) in
          omega (arith, is, below)

  by_end : (t : ℕ) → Quiet (channel_of (table_after_end table t) id)
  by_end t = subst Quiet (sym (left-is (stays_open t) (after_end t) id table.channels drawn.apart)) (go (channel_of table id) same)
    where
      go : (found : Option Channel) → Flow table.next id (bytes_in found) (bytes_in found) [] [] →
          Flow table.next id (bytes_in found) (bytes_in (left (stays_open t) (after_end t) found)) [] []
      go None is = is
      go (Some channel) is = either (stays_open t channel)
        where
          either : (b : Bool) → Flow table.next id (bytes_of channel.end) (bytes_in (if b then Some (after_end t channel) else None)) [] []
          either true = is
          either false = shut refl refl refl

  by_come : (t : ℕ) (text : List ℕ) (found : Option Channel) → channel_of table text ≡ found → Quiet (channel_of (after_arrival table t text found) id)
  by_come t text None there = same
  by_come t text (Some channel) there = by_owner text channel (with_owner channel (owner_given t channel.owner)) there refl

  -- all actions but calls that move bytes
  abbrev QuietIn : ChannelTable → Type 0
  QuietIn other = other.next < 2 ^ 64 → Quiet (channel_of other id)

  quiet_call : (t : ℕ) (target : Option ℕ) (call : ChanCall) → moves_bytes call ≡ false → QuietIn (Rattle.tt_chans.specs.Calls.table_after table t target call)
  quiet_call t target call quiet =
      by_call QuietIn table t target (λ small. same) call
      (λ text old new there changes small. by_change call t target text old new quiet there changes)
      (λ text old closes found small. by_close text)
      (λ is small. by_new_pipe t small)

  pub quiet_after : (t : ℕ) (request : Request) (line : Line) → ((call : ChanCall) → request ≡ ask.Chan call → moves_bytes call ≡ false) →
      QuietIn (act state t request line).state.channels
  quiet_after t request line quiet =
      by_action QuietIn state t (λ small. same) (λ text small. by_come t text (channel_of table text) refl) request line
      (λ call asks. quiet_call t (target_of state call) call (quiet call asks))
      (λ code asks small. by_end t)
