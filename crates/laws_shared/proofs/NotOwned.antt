-- What a thread asks of a channel that it does not own is refused.
use Rattle.std.proofs.Common.{◌≡◌, ◌∙◌, ◌==◌, ℕ, Bool, true, false, not, if◌then◌else◌, List, Option, Some, None, ap, refl, rules, tests}
use Rattle.tt_calls.specs.Replies as replies
use Rattle.tt_calls.specs.Replies.{Answered}
use Rattle.tt_calls.specs.declared.chan_call.ChanCall.{ChanCall}
use Rattle.tt_calls.specs.declared.chan_call.ChanCall.TheVariants as chan
use Rattle.tt_calls.specs.declared.reply.Reply.TheVariants.{Refused}
use Rattle.tt_calls.specs.declared.reply.Step.TheVariants as step
use Rattle.tt_chans.specs.Calls as channels
use Rattle.tt_chans.specs.Channels.{ChannelTable, channel_of, is_standard}
use Rattle.tt_chans.specs.Ends.{is_owned, own_channel}
use Rattle.tt_chans.specs.declared.channel.Channel.{Channel}
use Rattle.tt_chans.specs.declared.channel.Owner.{Owner}
use Rattle.tt_chans.specs.declared.channel.Owner.TheVariants.{Thread, Detached, Moving}
use Rattle.laws_shared.specs.SharedLaws.{NotOwnedLaw}
use Rattle.laws_shared.specs.Owners.{asks_owner, owner_in}
use Rattle.tt_shared.specs.Acts.{moves, on_channels, target_of}
use Rattle.tt_shared.specs.State.{State, answers, refuses, reply_of}

not_owned : (t : ℕ) (found : Option Channel) → ¬ (owner_in found ≡ Some (Thread t)) → own_channel t found ≡ None
not_owned t None other = refl
not_owned t (Some channel) other = go channel.owner refl
  where
    if-not : (b : Bool) → b ≡ false → (if b then Some channel else None) ≡ None
    if-not true is = absurd (cc is)
    if-not false is = refl

    go : (owner : Owner) → channel.owner ≡ owner → (if is_owned channel.owner t then Some channel else None) ≡ None
    go (Thread one) is = if-not (is_owned channel.owner t) (ap (λ owner. is_owned owner t) is ∙ differs (one == t) refl)
      where
        differs : (b : Bool) → (one == t) ≡ b → (one == t) ≡ false
        differs true same = let me : one ≡ t = search (rules, same, tests) in absurd (other (ap Some is ∙ ap (λ thread. Some (Thread thread)) me))
        differs false same = same
    go Detached is = if-not (is_owned channel.owner t) (ap (λ owner. is_owned owner t) is)
    go (Moving from to) is = if-not (is_owned channel.owner t) (ap (λ owner. is_owned owner t) is)

module _ (table : ChannelTable) (t : ℕ) where
  is-none : (does : Channel → Answered ChannelTable) (text : List ℕ) → own_channel t (channel_of table text) ≡ None →
      channels.if_owned does table t text ≡ channels.not_found table text
  is-none does text none = rw (none, channels.if_owned) refl

  -- the call is one of those that the owner alone may make
  refused : (target : Option ℕ) (call : ChanCall) → asks_owner call ≡ true → own_channel t (channel_of table (channels.id_of call)) ≡ None
      → channels.act_own table t target call ≡ channels.not_found table (channels.id_of call)
  refused target (chan.Put text bytes) asks none = is-none (channels.puts table text bytes) text none
  refused target (chan.GetLine text) asks none = is-none (channels.gets table text) text none
  refused target (chan.Eof text) asks none = is-none (channels.eof table) text none
  refused target (chan.Close text) asks none = is-none _ text none
  refused target (chan.Detach text) asks none = is-none _ text none
  refused target (chan.Transfer thread text) asks none = is-none (channels.transfers table t thread text target) text none
  refused target call asks none = absurd (cc asks)

  ready : (call : ChanCall) → asks_owner call ≡ true → own_channel t (channel_of table (channels.id_of call)) ≡ None → channels.waits table t call ≡ false
  ready (chan.GetLine text) asks none = ap (channels.waits_for_line table) none
  ready (chan.AwaitMove text) asks none = absurd (cc asks)
  ready call asks none = refl

  act_is : (target : Option ℕ) (call : ChanCall) → is_standard (channels.id_of call) ≡ false →
      channels.act table t target call ≡ channels.act_own table t target call
  act_is target call other = go (is_standard (channels.id_of call)) other
    where
      go : (b : Bool) → b ≡ false →
          (if b then replies.refuses table
          (channels.standard_message (channels.id_of call) call) else channels.act_own table t target call) ≡ channels.act_own table t target call
      go true is = absurd (cc is)
      go false is = refl

-- a call that is answered, and changes no channel
unmoved : (state : State) (call : ChanCall) (target : Option ℕ) (message : List ℕ) → moves state call target (Refused message) ≡ state
unmoved state (chan.Transfer text channel) (Some target) message = refl
unmoved state call target message = refl

told : (state : State) (t : ℕ) (call : ChanCall) (message : List ℕ) → channels.waits state.channels t call ≡ false
    → channels.act state.channels t (target_of state call) call ≡ replies.refuses state.channels message
    → on_channels state t call ≡ refuses state message
told state t call message free is =
    let target = target_of state call in
    let answered = λ (waiting : Bool) (does : Answered ChannelTable).
    let reply = reply_of (if waiting then step.Wait else step.Reply does.reply) in
    let table = if waiting then state.channels else does.table in
    answers (moves (record state { channels = table }) call target reply) reply in
    ap (λ waiting. answered waiting (channels.act state.channels t target call)) free
    ∙ ap (answered false) is
    ∙ ap (λ one. answers one (Refused message)) (unmoved state call target message)

pub not_owned_law : NotOwnedLaw
not_owned_law state t call line asks own other =
    let table = state.channels in
    let none = not_owned t (channel_of table (channels.id_of call)) other in
    let free = ready table t call asks none in
    let target = target_of state call in
    record {
      enabled = ap not free;
      refused = told state t call (channels.no_channel (channels.id_of call)) free (act_is table t target call own ∙ refused table t target call asks none);
    }
