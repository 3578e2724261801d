-- A channel that is on its way from one thread to another stays so, whatever others do.
use Rattle.std.proofs.Common.{◌≡◌, ◌≢◌, ◌∙◌, ◌<◌, ◌≤◌, ◌^◌, ◌==◌, ◌||◌, ℕ, Bool, true, false, not, if◌then◌else◌, List, Option}
use Rattle.std.proofs.Common.{Some, None, option_to_list, ap, refl, sym, subst, arith}
use Rattle.std.specs.List.{Contains}
use Rattle.tt_calls.specs.declared.chan_call.ChanCall.{ChanCall}
use Rattle.tt_calls.specs.declared.chan_call.ChanCall.TheVariants as chan
use Rattle.tt_calls.specs.declared.request.Request.{Request}
use Rattle.tt_calls.specs.declared.request.Request.TheVariants as ask
use Rattle.tt_chans.specs.Blocking.{move_target, target_in}
use Rattle.tt_chans.specs.Calls.{waits_for_move}
use Rattle.tt_chans.specs.Channels.{ChannelTable, channel_of, after_arrival, owner_given, table_after_end, with_channel, with_pipe, without_channel}
use Rattle.tt_chans.specs.Ends.{after_end, is_sender, moves_from, owner_after, stays_open, with_owner}
use Rattle.tt_chans.specs.declared.channel.Channel.{Channel}
use Rattle.tt_chans.specs.declared.channel.Owner.{Owner}
use Rattle.tt_chans.specs.declared.channel.Owner.TheVariants.{Thread, Detached, Moving}
use Rattle.laws_caught.proofs.Arrays.{in_none}
use Rattle.laws_caught.proofs.Ended.{lives_on, one_of}
use Rattle.laws_caught.specs.WaitLaws.{Stays, WaitsOn}
use Rattle.laws_shared.proofs.Apart.{left, left-is, other_key}
use Rattle.laws_shared.proofs.ChannelCalls.{Changes, attached, by_call, detached, moved, speaks}
use Rattle.laws_shared.proofs.Channels.{IsFound, by_action}
use Rattle.laws_shared.proofs.Deciding as deciding
use Rattle.laws_shared.proofs.Drawn.{IsDrawn, by_pipe, reached_drawn, read_new, up_after, write_new}
use Rattle.laws_shared.proofs.Tables.{by_remove, by_set, is_key, same_key}
use Rattle.laws_shared.specs.Orderly.{later}
use Rattle.laws_shared.specs.Owners.{owner_at, owner_in}
use Rattle.tt_shared.specs.Acts.{act, target_of}
use Rattle.tt_shared.specs.State.{State}
use Rattle.tt_shared.specs.declared.applied.Line.{Line}

not_thread : (owner : Owner) (n t u : ℕ) → owner ≡ Thread n → Some owner ≡ Some (Moving (Some t) u) → ⊥
not_thread owner n t u is way = let both : Some (Thread n) ≡ Some (Moving (Some t) u) = ap Some (sym is) ∙ way in cc both

not_detached : (owner : Owner) (t u : ℕ) → owner ≡ Detached → Some owner ≡ Some (Moving (Some t) u) → ⊥
not_detached owner t u is way = let both : Some Detached ≡ Some (Moving (Some t) u) = ap Some (sym is) ∙ way in cc both

the_owner : (owner other : Owner) → Some owner ≡ Some other → owner ≡ other
the_owner owner other is = cc is

not_there : (t u : ℕ) (found : Option Channel) → found ≡ None → owner_in found ≡ Some (Moving (Some t) u) → ⊥
not_there t u found missing way = let both : None ≡ Some (Moving (Some t) u) = ap owner_in (sym missing) ∙ way in cc both

-- the end of another thread leaves it open, and on its way
goes_on : (channel : Channel) (n t u : ℕ) → (u == n) ≡ false → channel.owner ≡ Moving (Some t) u → stays_open n channel ≡ true
goes_on channel n t u other is = rw (is, stays_open) (ap (λ b. not b || true) other)

after_other : (n t u : ℕ) → (u == n) ≡ false → (t == n) ≡ false → owner_after n (Moving (Some t) u) ≡ Moving (Some t) u
after_other n t u to from = rw (to, from) refl

given_other : (n t u : ℕ) → (u == n) ≡ false → owner_given n (Moving (Some t) u) ≡ Moving (Some t) u
given_other n t u to = rw to refl

module _ (state : State) (t u n : ℕ) (text : List ℕ) (drawn : IsDrawn state.channels) (way : owner_at state.channels text ≡ Some (Moving (Some t) u))
    (not_t : (t == n) ≡ false) (not_u : (u == n) ≡ false) where
  abbrev table : ChannelTable
  table = state.channels

  -- it is so in another table, if the numbers fit there
  abbrev Goes : ChannelTable → Type 0
  Goes other = other.next < 2 ^ 64 → owner_at other text ≡ Some (Moving (Some t) u)

  owner_was : (id : List ℕ) (old : Channel) → channel_of table id ≡ Some old → text ≡ id → Some old.owner ≡ Some (Moving (Some t) u)
  owner_was id old there same = ap owner_in (sym there) ∙ subst (λ one. owner_at table one ≡ Some (Moving (Some t) u)) same way

  by_new : (id : List ℕ) (old new : Channel) → channel_of table id ≡ Some old →
      (text ≡ id → Some old.owner ≡ Some (Moving (Some t) u) → Some new.owner ≡ Some (Moving (Some t) u)) → Goes (with_channel table id new)
  by_new id old new there keeps small =
      by_set (λ found. owner_in found ≡ Some (Moving (Some t) u)) text id table.channels new (λ same had. keeps same (owner_was id old there same)) way

  by_change : (call : ChanCall) (target : Option ℕ) (id : List ℕ) (old new : Channel) → channel_of table id ≡ Some old
      → Changes n target call id old new → Goes (with_channel table id new)
  by_change call target id old new there (speaks moves is) = by_new id old new there (λ same whose. ap Some is ∙ whose)
  by_change call target id old new there (detached asks mine is) = by_new id old new there (λ same whose. absurd (not_thread old.owner n t u mine whose))
  by_change call target id old new there (moved asks goes mine is) = by_new id old new there (λ same whose. absurd (not_thread old.owner n t u mine whose))
  by_change call target id old new there (attached asks nobody is) = by_new id old new there (λ same whose. absurd (not_detached old.owner t u nobody whose))

  by_close : (id : List ℕ) (old : Channel) → IsFound n (channel_of table id) old → Goes (without_channel table id)
  by_close id old found small = go (is_key id text) refl
    where
      go : (b : Bool) → is_key id text ≡ b → owner_at (without_channel table id) text ≡ Some (Moving (Some t) u)
      go true is = absurd (not_thread old.owner n t u found.owner (owner_was id old found.there (sym (same_key id text is))))
      go false is = by_remove (λ found. owner_in found ≡ Some (Moving (Some t) u)) text id table.channels (other_key id text is) way

  by_new_pipe : Goes (with_pipe table n)
  by_new_pipe small =
      by_pipe (λ found. owner_in found ≡ Some (Moving (Some t) u)) table n text
      (λ same. absurd (not_there t u _ (read_new table drawn small) (subst (λ one. owner_at table one ≡ Some (Moving (Some t) u)) same way)))
      (λ same. absurd (not_there t u _ (write_new table drawn small) (subst (λ one. owner_at table one ≡ Some (Moving (Some t) u)) same way)))
      way

  by_come : (id : List ℕ) (found : Option Channel) → channel_of table id ≡ found → Goes (after_arrival table n id found)
  by_come id None there small = way
  by_come id (Some channel) there small =
      by_new id channel (with_owner channel (owner_given n channel.owner)) there
      (λ same whose.
      ap (λ owner. Some (owner_given n owner)) (the_owner channel.owner (Moving (Some t) u) whose) ∙ ap Some (given_other n t u not_u)) small

  -- another thread ends
  by_end : Goes (table_after_end table n)
  by_end small = ap owner_in (left-is (stays_open n) (after_end n) text table.channels drawn.apart) ∙ go (channel_of table text) way
    where
      go : (found : Option Channel) → owner_in found ≡ Some (Moving (Some t) u) →
          owner_in (left (stays_open n) (after_end n) found) ≡ Some (Moving (Some t) u)
      go None is = absurd (cc is)
      go (Some channel) is = either (stays_open n channel) (goes_on channel n t u not_u (the_owner channel.owner (Moving (Some t) u) is))
        where
          either : (b : Bool) → b ≡ true → owner_in (if b then Some (after_end n channel) else None) ≡ Some (Moving (Some t) u)
          either true stays =
              ap (λ owner. Some (owner_after n owner)) (the_owner channel.owner (Moving (Some t) u) is) ∙ ap Some (after_other n t u not_u not_t)
          either false stays = absurd (cc stays)

  pub goes_after : (request : Request) (line : Line) → Goes (act state n request line).state.channels
  goes_after request line =
      by_action Goes state n (λ small. way) (λ id. by_come id (channel_of table id) refl) request line
      (λ call asks.
      by_call Goes table n (target_of state call) (λ small. way) call
      (λ id old new there changes. by_change call (target_of state call) id old new there changes)
      (λ id old closes found. by_close id old found)
      (λ is. by_new_pipe))
      (λ code asks. by_end)

-- ---- the wait for it ----

unwaited : (b : Bool) → not b ≡ false → b ≡ true
unwaited true is = refl
unwaited false is = absurd (cc is)

-- who waits for a channel to move is its sender, and the one that is named is to get it
moving_is : (t u : ℕ) (found : Option Channel) → waits_for_move t found ≡ true → Contains (option_to_list (target_in t found)) u →
    owner_in found ≡ Some (Moving (Some t) u)
moving_is t u None waits named = absurd (cc waits)
moving_is t u (Some channel) waits named = go channel.owner waits named
  where
    by : (b : Bool) (to : ℕ) → Contains (option_to_list (if b then Some to else None)) u → to ≡ u
    by true to named = one_of to u named
    by false to named = in_none _ u named

    go : (owner : Owner) → moves_from owner t ≡ true → Contains (option_to_list (move_target t owner)) u → Some owner ≡ Some (Moving (Some t) u)
    go (Thread one) waits named = absurd (cc waits)
    go Detached waits named = absurd (cc waits)
    go (Moving None to) waits named = absurd (cc waits)
    go (Moving (Some from) to) waits named =
        ap (λ one. Some (Moving (Some one) to)) (deciding.same from t waits) ∙ ap (λ one. Some (Moving (Some t) one)) (by (from == t) to named)

way_waits : (t u : ℕ) (found : Option Channel) → owner_in found ≡ Some (Moving (Some t) u) → waits_for_move t found ≡ true
way_waits t u None way = absurd (cc way)
way_waits t u (Some channel) way = ap (λ owner. moves_from owner t) (the_owner channel.owner (Moving (Some t) u) way) ∙ deciding.itself t

way_named : (t u : ℕ) (found : Option Channel) → owner_in found ≡ Some (Moving (Some t) u) → Contains (option_to_list (target_in t found)) u
way_named t u None way = absurd (cc way)
way_named t u (Some channel) way =
    subst (λ named. Contains (option_to_list named) u) (sym named) (0, omega arith, refl)
  where
    named : move_target t channel.owner ≡ Some u
    named =
        ap (move_target t) (the_owner channel.owner (Moving (Some t) u) way) ∙ ap (λ b. if b then Some u else None) (deciding.itself t)

pub move_wait : (text : List ℕ) → Stays (ask.Chan (chan.AwaitMove text))
move_wait text moment t u reached can fit not_t not_u waits = record {
  lives = lives_on moment t not_t waits.lives;
  not_enabled = ap not (way_waits t u (channel_of (later moment).channels text) way);
  other_lives = lives_on moment u not_u waits.other_lives;
  named = way_named t u (channel_of (later moment).channels text) way;
}
  where
    n : ℕ
    n = moment.action.thread

    small : (later moment).channels.next < 2 ^ 64
    small = fit.channels

    fits : moment.before.channels.next < 2 ^ 64
    fits = let up : moment.before.channels.next ≤ (later moment).channels.next = (up_after moment.before moment.action.thread moment.action.request moment.action.line).up in omega (arith, small, up)

    way : owner_at (later moment).channels text ≡ Some (Moving (Some t) u)
    way =
        goes_after moment.before t u n text (reached_drawn moment.before reached fits)
        (moving_is t u (channel_of moment.before.channels text) (unwaited _ waits.not_enabled) waits.named)
        (deciding.apart t n (λ is. not_t (sym is))) (deciding.apart u n (λ is. not_u (sym is))) moment.action.request moment.action.line small
