-- How actions change the channels: by calls on them, by a channel that comes, and by the end of a thread.
use Rattle.std.proofs.Common.{◌≡◌, ℕ, Bool, true, false, if◌then◌else◌, List, Option, Some, None, ap, refl, sym, subst, rules, tests}
use Rattle.tt_calls.specs.declared.chan_call.ChanCall.{ChanCall}
use Rattle.tt_calls.specs.declared.event.Event.{Event}
use Rattle.tt_calls.specs.declared.event.Event.TheVariants as event
use Rattle.tt_calls.specs.declared.reply.Step.{Step}
use Rattle.tt_calls.specs.declared.reply.Step.TheVariants as step
use Rattle.tt_calls.specs.declared.request.Request.{Request}
use Rattle.tt_calls.specs.declared.request.Request.TheVariants as ask
use Rattle.tt_chans.specs.Calls.{table_after}
use Rattle.tt_chans.specs.Channels.{ChannelTable, channel_of, after_arrival, table_after_end}
use Rattle.tt_chans.specs.Ends.{is_owned, own_channel}
use Rattle.tt_chans.specs.declared.channel.Channel.{Channel}
use Rattle.tt_chans.specs.declared.channel.Owner.{Owner}
use Rattle.tt_chans.specs.declared.channel.Owner.TheVariants.{Thread, Detached, Moving}
use Rattle.laws_shared.proofs.Families.{Families, by_moves, by_starts, quiet}
use Rattle.tt_pools.specs.Calls as pools
use Rattle.tt_pools.specs.declared.step.PoolStep.{PoolStep}
use Rattle.tt_shared.specs.Acts.{act, gives_of, pools_after, target_of}
use Rattle.tt_shared.specs.Mail.{first_of}
use Rattle.tt_shared.specs.Sends.{takes, takes_first}
use Rattle.tt_shared.specs.State.{State, is_marked, room}
use Rattle.tt_shared.specs.declared.applied.Line.{Line}

-- ---- what holds of the channels after an action ----

module _ (P : ChannelTable → Type 0) (state : State) (t : ℕ) (same : P state.channels)
    (comes : (text : List ℕ) → P (after_arrival state.channels t text (channel_of state.channels text))) where
  by_first : (found : Option Event) → P (takes_first state t found).state.channels
  by_first None = same
  by_first (Some (event.Moved text)) = comes text
  by_first (Some event) = same

  by_takes : P (takes state t).state.channels
  by_takes = by_first (first_of state.queues t)

module _ (P : ChannelTable → Type 0) (state : State) (t : ℕ) (same : P state.channels)
    (comes : (text : List ℕ) → P (after_arrival state.channels t text (channel_of state.channels text))) where
  by_gives : (gives : PoolStep) → P (gives_of state t gives).state.channels
  by_gives gives = go gives.step refl
    where
      go : (one : Step) → gives.step ≡ one → P (gives_of state t gives).state.channels
      go step.Wait is = rw is (by_takes P state t same comes)
      go (step.Reply told) is =
          let kept = ap (λ (all : Families). all.2) (by_starts state gives.start gives.worker) in
          rw is (subst P (sym kept) same)

module _ (P : ChannelTable → Type 0) (state : State) (t : ℕ) (same : P state.channels)
    (comes : (text : List ℕ) → P (after_arrival state.channels t text (channel_of state.channels text))) where
  by_pools : (answered : pools.Answered) → P (pools_after state t answered).state.channels
  by_pools answered = by_gives P (record state { pools = answered.table }) t same comes answered.gives

  pub by_action : (request : Request) (line : Line)
      → ((call : ChanCall) → request ≡ ask.Chan call → P (table_after state.channels t (target_of state call) call))
      → ((code : _) → request ≡ ask.End code → P (table_after_end state.channels t))
      → P (act state t request line).state.channels
  by_action (ask.Chan call) line calls ends =
      subst P (sym (ap (λ (all : Families). all.2) (by_moves _ call (target_of state call) _))) (calls call refl)
  by_action (ask.Pool call) line calls ends = by_pools (pools.act_or_wait state.pools t (room state) (is_marked state t) call)
  by_action ask.Take line calls ends = by_takes P state t same comes
  by_action ask.TakeReady line calls ends = by_takes P state t same comes
  by_action (ask.End code) line calls ends = ends code refl
  by_action (ask.Tsv call) line calls ends = same
  by_action (ask.Lock call) line calls ends = same
  by_action request line calls ends = subst P (sym (ap (λ (all : Families). all.2) (quiet state t request line refl))) same

-- ---- owners ----

-- a channel that a thread owns
pub record IsFound (t : ℕ) (found : Option Channel) (channel : Channel) : Type 0 where
  pub there : found ≡ Some channel
  pub owner : channel.owner ≡ Thread t

pub owned_is : (t : ℕ) (found : Option Channel) (channel : Channel) → own_channel t found ≡ Some channel → IsFound t found channel
owned_is t None channel is = absurd (cc is)
owned_is t (Some other) channel is = go (is_owned other.owner t) refl is
  where
    whose : (owner : Owner) → is_owned owner t ≡ true → owner ≡ Thread t
    whose (Thread one) own = ap Thread (search (rules, own, tests))
    whose Detached own = absurd (cc own)
    whose (Moving from to) own = absurd (cc own)

    go : (b : Bool) → is_owned other.owner t ≡ b → (if b then Some other else None) ≡ Some channel → IsFound t (Some other) channel
    go true own is =
        let alike : other ≡ channel = cc is in
        record { there = is; owner = subst (λ one. one.owner ≡ Thread t) alike (whose other.owner own) }
    go false own is = absurd (cc is)
