-- What is taken from a pipe is the front of what is put into it.
use Rattle.std.proofs.Common.{◌≡◌, ◌∙◌, ◌≤◌, ◌<◌, ◌^◌, ℕ, List, [], ◌∷◌, ◌++◌, Option, Some, None, IfSome, ap, refl, sym, subst, arith}
use Rattle.std.proofs.lemmas.List.{append_assoc, append-nil}
use Rattle.tt_calls.specs.declared.chan_call.ChanCall.{ChanCall}
use Rattle.tt_calls.specs.declared.chan_call.ChanCall.TheVariants as chan
use Rattle.tt_calls.specs.declared.request.Request.{Request}
use Rattle.tt_calls.specs.declared.request.Request.TheVariants as ask
use Rattle.tt_chans.specs.Channels.{ChannelTable, channel_of}
use Rattle.tt_chans.specs.declared.channel.Channel.{Channel}
use Rattle.laws_shared.proofs.ChannelCalls.{moves_bytes}
use Rattle.laws_shared.proofs.Drawn.{IsDrawn, IsUsed, none_drawn, up_after, up_along}
use Rattle.laws_shared.proofs.Flows.{Flow, made, opened, quiet_after, shut}
use Rattle.laws_shared.proofs.PipeCalls.{get_after, put_after}
use Rattle.laws_shared.specs.Actions.{Action, Acts, Moment, NumbersFit, after, more, none}
use Rattle.laws_shared.specs.SharedLaws.{PipeLaw}
use Rattle.laws_shared.specs.Pipes.{bytes_at, bytes_in, bytes_put, action_puts, call_puts, bytes_taken, action_takes, call_takes}
use Rattle.tt_shared.specs.Acts.{act, target_of}
use Rattle.tt_shared.specs.State.{State, start_state}
use Rattle.tt_shared.specs.declared.applied.Line.{Line}

-- ---- one action ----

abbrev pub FlowsBy : State → List ℕ → ℕ → Request → Line → Type 0
FlowsBy state id t request line =
    let done = act state t request line in
    Flow state.channels.next id (bytes_at state.channels id) (bytes_at done.state.channels id) (call_puts id state request done.gives.reply)
    (call_takes id state request done.gives.reply)

same_call : (one other : ChanCall) → ask.Chan one ≡ ask.Chan other → one ≡ other
same_call one other is = cc is

pub flow_after : (state : State) (id : List ℕ) (t : ℕ) (request : Request) (line : Line) → IsDrawn state.channels →
    (act state t request line).state.channels.next < 2 ^ 64 → FlowsBy state id t request line
flow_after state id t (ask.Chan (chan.Put text bytes)) line drawn small = put_after state.channels id text bytes t (target_of state (chan.Put text bytes))
flow_after state id t (ask.Chan (chan.GetLine text)) line drawn small = get_after state.channels id text t (target_of state (chan.GetLine text))
flow_after state id t (ask.Chan call) line drawn small =
    quiet_after state id drawn t (ask.Chan call) line (λ one asks. sym (ap moves_bytes (same_call call one asks))) small
flow_after state id t request line drawn small = quiet_after state id drawn t request line (λ one asks. absurd (cc asks)) small

-- ---- all so far ----

-- what was put into and taken from the pipe so far, when its read end has these bytes
record SoFar (next : ℕ) (id : List ℕ) (bytes : Option (List ℕ)) (bytes_put bytes_taken : List ℕ) : Type 0 where
  rest : List ℕ
  front : bytes_put ≡ bytes_taken ++ rest
  open_end : IfSome bytes (λ bytes. bytes ≡ rest)
  unused : (IsUsed next id → ⊥) → (bytes_put ≡ []) × (bytes_taken ≡ [])

used_later : (id : List ℕ) (n m : ℕ) → n ≤ m → IsUsed n id → IsUsed m id
used_later id n m le used = (used.0, omega (arith, used.1), used.2)

open_is : (bytes : Option (List ℕ)) (found rest : List ℕ) → bytes ≡ Some found → IfSome bytes (λ one. one ≡ rest) → found ≡ rest
open_is None found rest is open_end = absurd (cc is)
open_is (Some one) found rest is open_end = let same : one ≡ found = cc is in sym same ∙ open_end

drawn_found : (table : ChannelTable) (id bytes : List ℕ) → IsDrawn table → bytes_at table id ≡ Some bytes → IsUsed table.next id
drawn_found table id bytes drawn is = go (channel_of table id) (drawn.used id) is
  where
    go : (found : Option Channel) → IfSome found (λ channel. IsUsed table.next id) → bytes_in found ≡ Some bytes → IsUsed table.next id
    go None used is = absurd (cc is)
    go (Some channel) used is = used

step : (table : ChannelTable) (next : ℕ) (id : List ℕ) (new : Option (List ℕ)) (bytes_put bytes_taken puts takes : List ℕ)
    → IsDrawn table → table.next ≤ next → Flow table.next id (bytes_at table id) new puts takes → SoFar table.next id (bytes_at table id) bytes_put bytes_taken
    → SoFar next id new (bytes_put ++ puts) (bytes_taken ++ takes)
step table next id new bytes_put bytes_taken puts takes drawn up (opened {before = before} {after = after} was is flows) so_far = record {
  rest = after;
  front =
      let had : before ≡ so_far.rest = open_is (bytes_at table id) before so_far.rest was so_far.open_end in
      ap (λ all. all ++ puts) (so_far.front ∙ ap (λ rest. bytes_taken ++ rest) (sym had))
      ∙ append_assoc bytes_taken before puts
      ∙ ap (λ rest. bytes_taken ++ rest) flows
      ∙ sym (append_assoc bytes_taken takes after);
  open_end = subst (λ bytes. IfSome bytes (λ one. one ≡ after)) (sym is) refl;
  unused = λ never. absurd (never (used_later id table.next next up (drawn_found table id before drawn was)));
}
step table next id new bytes_put bytes_taken puts takes drawn up (shut is no_put no_take) so_far = record {
  rest = so_far.rest;
  front = ap (λ more. bytes_put ++ more) no_put ∙ append-nil bytes_put ∙ so_far.front
      ∙ ap (λ all. all ++ so_far.rest) (sym (ap (λ more. bytes_taken ++ more) no_take ∙ append-nil bytes_taken));
  open_end = subst (λ bytes. IfSome bytes (λ one. one ≡ so_far.rest)) (sym is) tt;
  unused = λ never.
      let before = so_far.unused (λ used. never (used_later id table.next next up used)) in
      (ap (λ more. bytes_put ++ more) no_put ∙ append-nil bytes_put ∙ before.0, ap (λ more. bytes_taken ++ more) no_take ∙ append-nil bytes_taken ∙ before.1);
}
step table next id new bytes_put bytes_taken puts takes drawn up (made was never is no_put no_take) so_far =
    let before = so_far.unused never in
    let nothing_put : bytes_put ++ puts ≡ [] = ap (λ more. bytes_put ++ more) no_put ∙ append-nil bytes_put ∙ before.0 in
    let nothing_taken : bytes_taken ++ takes ≡ [] = ap (λ more. bytes_taken ++ more) no_take ∙ append-nil bytes_taken ∙ before.1 in
    record {
      rest = [];
      front = nothing_put ∙ sym (ap (λ all. all ++ []) nothing_taken);
      open_end = subst (λ bytes. IfSome bytes (λ one. one ≡ [])) (sym is) refl;
      unused = λ any. (nothing_put, nothing_taken);
    }

-- ---- a list of actions ----

abbrev SoFarIn : State → List ℕ → (bytes_put bytes_taken : List ℕ) → Type 0
SoFarIn state id bytes_put bytes_taken = SoFar state.channels.next id (bytes_at state.channels id) bytes_put bytes_taken

along : (old new : State) (actions : List Action) (id before gone : List ℕ) → IsDrawn old.channels → Acts old actions new → NumbersFit new
    → SoFarIn old id before gone → SoFarIn new id (before ++ bytes_put id old actions) (gone ++ bytes_taken id old actions)
along old new [] id before gone drawn none small so_far =
    subst (λ all. SoFarIn new id all (gone ++ [])) (sym (append-nil before))
    (subst (λ all. SoFarIn new id before all) (sym (append-nil gone)) so_far)
along old new (action ∷ actions) id before gone drawn (more can rest) small so_far =
    let next = after old action in
    let first : Moment = record { before = old; action = action } in
    let up = up_after old action.thread action.request action.line in
    let fits : next.channels.next < 2 ^ 64 = omega (arith, small, (up_along next new actions rest).up) in
    let flow = flow_after old id action.thread action.request action.line drawn fits in
    let now = step old.channels next.channels.next id (bytes_at next.channels id) before gone (action_puts id first) (action_takes id first) drawn up.up flow so_far in
    let later = along next new actions id (before ++ action_puts id first) (gone ++ action_takes id first) (up.drawn fits drawn) rest small now in
    subst (λ all. SoFarIn new id all (gone ++ bytes_taken id old (action ∷ actions))) (append_assoc before (action_puts id first) (bytes_put id next actions))
    (subst (λ all. SoFarIn new id ((before ++ action_puts id first) ++ bytes_put id next actions) all)
    (append_assoc gone (action_takes id first) (bytes_taken id next actions)) later)

pub piped : PipeLaw
piped main actions state id acts small =
    let start : SoFarIn (start_state main) id [] [] = record { rest = []; front = refl; open_end = tt; unused = λ never. (refl, refl) } in
    let all = along (start_state main) state actions id [] [] none_drawn acts small start in
    record { rest = all.rest; front = all.front; left = all.open_end }
