-- A thread owns a channel until it gives it up.
use Rattle.std.proofs.Common.{◌≡◌, ◌≢◌, ◌∙◌, ◌<◌, ◌^◌, ℕ, Bool, true, false, not, if◌then◌else◌, List, [], ◌∷◌, Option}
use Rattle.std.proofs.Common.{Some, None, ap, refl, sym, subst, bytes_eq, arith}
use Rattle.std.proofs.lemmas.List.Elements.{All-head, All-tail}
use Rattle.std.specs.List.{All}
use Rattle.tt_calls.specs.declared.chan_call.ChanCall.{ChanCall}
use Rattle.tt_calls.specs.declared.chan_call.ChanCall.TheVariants as chan
use Rattle.tt_calls.specs.declared.request.Request.{Request}
use Rattle.tt_calls.specs.declared.request.Request.TheVariants as ask
use Rattle.tt_chans.specs.Channels.{ChannelTable, channel_of, after_arrival, owner_given, table_after_end, with_channel, with_pipe, without_channel}
use Rattle.tt_chans.specs.Ends.{after_end, owner_after, stays_open, with_owner}
use Rattle.tt_chans.specs.declared.channel.Channel.{Channel}
use Rattle.tt_chans.specs.declared.channel.Owner.{Owner}
use Rattle.tt_chans.specs.declared.channel.Owner.TheVariants.{Thread, Detached}
use Rattle.laws_shared.proofs.Deciding as deciding
use Rattle.laws_shared.proofs.Apart.{left, left-is, other_key}
use Rattle.laws_shared.proofs.ChannelCalls.{Changes, attached, by_call, detached, moved, speaks}
use Rattle.laws_shared.proofs.Channels.{IsFound, by_action}
use Rattle.laws_shared.proofs.Drawn.{IsDrawn, by_pipe, reached_drawn, read_new, up_after, up_along, write_new}
use Rattle.laws_shared.proofs.Tables.{by_remove, by_set, is_key, same_key}
use Rattle.laws_shared.specs.Actions.{Action, Acts, Moment, NumbersFit, after, moments, more, none}
use Rattle.laws_shared.specs.SharedLaws.{StaysOwnLaw}
use Rattle.laws_shared.specs.Owners.{GivesUp, OwnsChannel, gives_up, owner_at, owner_in}
use Rattle.tt_shared.specs.Acts.{act, target_of}
use Rattle.tt_shared.specs.State.{State}
use Rattle.tt_shared.specs.declared.applied.Line.{Line}

same_thread : (u t : ℕ) → Thread u ≡ Thread t → u ≡ t
same_thread u t is = cc is

not_thread : {owner : Owner} (t : ℕ) → owner ≡ Detached → Some owner ≡ Some (Thread t) → ⊥
not_thread t is own = let both : Some Detached ≡ Some (Thread t) = ap Some (sym is) ∙ own in cc both

the_owner : {owner : Owner} (t : ℕ) → Some owner ≡ Some (Thread t) → owner ≡ Thread t
the_owner t is = cc is

not_there : (t : ℕ) (found : Option Channel) → found ≡ None → owner_in found ≡ Some (Thread t) → ⊥
not_there t found missing own = let both : None ≡ Some (Thread t) = ap owner_in (sym missing) ∙ own in cc both

-- the end of a thread leaves the channels of another open
goes_on : (channel : Channel) (t u : ℕ) → u ≢ t → channel.owner ≡ Thread t → stays_open u channel ≡ true
goes_on channel t u other is = rw (is, stays_open) (ap not (deciding.apart t u (λ is. other (sym is))))

module _ (state : State) (t u : ℕ) (text : List ℕ) (drawn : IsDrawn state.channels) (own : OwnsChannel state t text) where
  abbrev table : ChannelTable
  table = state.channels

  -- the thread owns the channel in another table, if the numbers fit there
  abbrev Owns : ChannelTable → Type 0
  Owns other = other.next < 2 ^ 64 → owner_at other text ≡ Some (Thread t)

  -- what is done by others is none of what gives the channel up
  abbrev Keeps : Request → Type 0
  Keeps request = u ≡ t → gives_up text request ≡ true → ⊥

  owner_was : (id : List ℕ) (old : Channel) → channel_of table id ≡ Some old → text ≡ id → old.owner ≡ Thread t
  owner_was id old there same = the_owner t (ap owner_in (sym there) ∙ subst (λ one. owner_at table one ≡ Some (Thread t)) same own)

  by_new : (id : List ℕ) (old new : Channel) → channel_of table id ≡ Some old → (text ≡ id → old.owner ≡ Thread t → new.owner ≡ Thread t) →
      Owns (with_channel table id new)
  by_new id old new there keeps small =
      by_set (λ found. owner_in found ≡ Some (Thread t)) text id table.channels new (λ same had. ap Some (keeps same (owner_was id old there same))) own

  by_change : (call : ChanCall) (target : Option ℕ) (id : List ℕ) (old new : Channel) → Keeps (ask.Chan call) → channel_of table id ≡ Some old
      → Changes u target call id old new → Owns (with_channel table id new)
  by_change call target id old new keeps there (speaks moves is) = by_new id old new there (λ same whose. is ∙ whose)
  by_change call target id old new keeps there (detached asks mine is) =
      by_new id old new there (λ same whose.
      absurd (keeps (same_thread u t (sym mine ∙ whose))
      (ap (λ one. gives_up text (ask.Chan one)) asks ∙ subst (λ one. bytes_eq one text ≡ true) same (deciding.text_itself text))))
  by_change call target id old new keeps there (moved asks goes mine is) =
      by_new id old new there (λ same whose.
      absurd (keeps (same_thread u t (sym mine ∙ whose))
      (ap (λ one. gives_up text (ask.Chan one)) asks ∙ subst (λ one. bytes_eq one text ≡ true) same (deciding.text_itself text))))
  by_change call target id old new keeps there (attached asks nobody is) =
      by_new id old new there (λ same whose. absurd (not_thread t nobody (ap Some whose)))

  by_close : (call : ChanCall) (id : List ℕ) (old : Channel) → Keeps (ask.Chan call) → call ≡ chan.Close id → IsFound u (channel_of table id) old →
      Owns (without_channel table id)
  by_close call id old keeps asks found small = go (is_key id text) refl
    where
      go : (b : Bool) → is_key id text ≡ b → owner_at (without_channel table id) text ≡ Some (Thread t)
      go true is =
          let same = same_key id text is in
          absurd (keeps (same_thread u t (sym found.owner ∙ owner_was id old found.there (sym same)))
          (ap (λ one. gives_up text (ask.Chan one)) asks ∙ subst (λ one. bytes_eq one text ≡ true) (sym same) (deciding.text_itself text)))
      go false is = by_remove (λ found. owner_in found ≡ Some (Thread t)) text id table.channels (other_key id text is) own

  by_new_pipe : Owns (with_pipe table u)
  by_new_pipe small =
      by_pipe (λ found. owner_in found ≡ Some (Thread t)) table u text
      (λ same. absurd (not_there t _ (read_new table drawn small) (subst (λ one. owner_at table one ≡ Some (Thread t)) same own)))
      (λ same. absurd (not_there t _ (write_new table drawn small) (subst (λ one. owner_at table one ≡ Some (Thread t)) same own)))
      own

  by_come : (id : List ℕ) (found : Option Channel) → channel_of table id ≡ found → Owns (after_arrival table u id found)
  by_come id None there small = own
  by_come id (Some channel) there small =
      by_new id channel (with_owner channel (owner_given u channel.owner)) there (λ same whose. ap (owner_given u) whose) small

  -- another thread ends
  by_end : u ≢ t → Owns (table_after_end table u)
  by_end other small = ap owner_in (left-is (stays_open u) (after_end u) text table.channels drawn.apart) ∙ go (channel_of table text) own
    where
      go : (found : Option Channel) → owner_in found ≡ Some (Thread t) → owner_in (left (stays_open u) (after_end u) found) ≡ Some (Thread t)
      go None is = absurd (cc is)
      go (Some channel) is = either (stays_open u channel) (goes_on channel t u other (the_owner t is))
        where
          either : (b : Bool) → b ≡ true → owner_in (if b then Some (after_end u channel) else None) ≡ Some (Thread t)
          either true stays = ap (λ owner. Some (owner_after u owner)) (the_owner t is)
          either false stays = absurd (cc stays)

  pub stays_after : (request : Request) (line : Line) → Keeps request → Owns (act state u request line).state.channels
  stays_after request line keeps =
      by_action Owns state u (λ small. own) (λ id. by_come id (channel_of table id) refl) request line
      (λ call asks.
      let kept : Keeps (ask.Chan call) = λ me gives. keeps me (ap (gives_up text) asks ∙ gives) in
      by_call Owns table u (target_of state call) (λ small. own) call
      (λ id old new there changes. by_change call (target_of state call) id old new kept there changes)
      (λ id old closes found. by_close call id old kept closes found)
      (λ is. by_new_pipe))
      (λ code asks. by_end (λ me. keeps me (ap (gives_up text) asks)))

-- ---- a list of actions ----

along : (old new : State) (actions : List Action) (t : ℕ) (text : List ℕ) → IsDrawn old.channels → Acts old actions new → NumbersFit new
    → OwnsChannel old t text → All (λ moment. ¬ (GivesUp t text moment.action)) (moments old actions) → OwnsChannel new t text
along old new [] t text drawn none small own keeps = own
along old new (action ∷ actions) t text drawn (more can rest) small own keeps =
    let next = after old action in
    let goes = λ (moment : Moment). ¬ (GivesUp t text moment.action) in
    let first : Moment = record { before = old; action = action } in
    let others = moments next actions in
    let kept = All-head goes first others keeps in
    let fits : next.channels.next < 2 ^ 64 = omega (arith, small, (up_along next new actions rest).up) in
    let still = stays_after old t action.thread text drawn own action.request action.line (λ me gives. kept record { thread = me; gives = gives }) fits in
    along next new actions t text ((up_after old action.thread action.request action.line).drawn fits drawn) rest small still (All-tail goes first others keeps)

pub stays_own : StaysOwnLaw
stays_own old new actions t text reached acts small own keeps =
    let fits : old.channels.next < 2 ^ 64 = omega (arith, small, (up_along old new actions acts).up) in
    along old new actions t text (reached_drawn old reached fits) acts small own keeps
