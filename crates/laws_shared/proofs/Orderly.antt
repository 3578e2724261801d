-- Each action of a run is orderly.
use Rattle.std.proofs.Common.{◌≡◌, ◌∙◌, ◌<◌, ◌^◌, ℕ, List, ◌++◌, Option, Some, None, ap, sym, arith}
use Rattle.laws_shared.proofs.ArraysAlone.{one_alone}
use Rattle.laws_shared.proofs.Drawn.{IsDrawn, reached_drawn, up_after}
use Rattle.laws_shared.proofs.Flows.{Flow, made, opened, shut}
use Rattle.laws_shared.proofs.HeldAlone.{by_holder, held_after}
use Rattle.laws_shared.proofs.HeldLocks.{got_one, have_after, one_in_state, reached_have, stays_one}
use Rattle.laws_shared.proofs.Kept.{Kept}
use Rattle.laws_shared.proofs.KeptActions.{are_kept, kept_after, reached_kept}
use Rattle.laws_shared.proofs.NotOwned.{not_owned_law}
use Rattle.laws_shared.proofs.Owners.{stays_after}
use Rattle.laws_shared.proofs.Pipes.{flow_after}
use Rattle.laws_shared.specs.Actions.{CanHappen, Moment, NumbersFit, after}
use Rattle.laws_shared.specs.Orderly.{KeepsArrays, KeepsChannels, KeepsLocks, OrderlyLaw, later}
use Rattle.laws_shared.specs.Pipes.{Flows, bytes_at, action_puts, action_takes}
use Rattle.tt_locks.specs.LockLaws.{HaveOneHolder}

keeps_arrays : (moment : Moment) → CanHappen moment.before moment.action → KeepsArrays moment
keeps_arrays moment can =
    let state = moment.before in
    let action = moment.action in
    record {
      alone = one_alone state action can;
      others = λ t name own on. by_holder state action t name can own on;
      held = λ t name own goes. held_after state t action.thread name action.request action.line own goes;
    }

keeps_locks : (moment : Moment) → HaveOneHolder moment.before.locks → KeepsLocks moment
keeps_locks moment have =
    let state = moment.before in
    let action = moment.action in
    let then = have_after state action.thread action.request action.line have in
    record {
      one = one_in_state (later moment) then;
      holds = λ t text alone was holds. stays_one state action t text alone have was holds;
      none = λ t other text alone got. got_one state action t other text then alone got;
    }

-- ---- bytes ----

flows : (next : ℕ) (id : List ℕ) (old new : Option (List ℕ)) (put taken : List ℕ) → Flow next id old new put taken → Flows old new put taken
flows next id None None put taken (opened was is flow) = absurd (cc was)
flows next id None (Some after) put taken (opened was is flow) = absurd (cc was)
flows next id (Some before) None put taken (opened was is flow) = absurd (cc is)
flows next id (Some before) (Some after) put taken (opened {before = had} {after = has} was is flow) =
    let first : before ≡ had = cc was in
    let second : after ≡ has = cc is in
    ap (λ bytes. bytes ++ put) first ∙ flow ∙ ap (λ bytes. taken ++ bytes) (sym second)
flows next id None None put taken (shut is no_put no_take) = (no_put, no_take, tt)
flows next id (Some before) None put taken (shut is no_put no_take) = (no_put, no_take, tt)
flows next id None (Some after) put taken (shut is no_put no_take) = absurd (cc is)
flows next id (Some before) (Some after) put taken (shut is no_put no_take) = absurd (cc is)
flows next id None None put taken (made was never is no_put no_take) = absurd (cc is)
flows next id None (Some after) put taken (made was never is no_put no_take) = (no_put, no_take, cc is)
flows next id (Some before) new put taken (made was never is no_put no_take) = absurd (cc was)

keeps_channels : (moment : Moment) → CanHappen moment.before moment.action → Kept moment.before → IsDrawn moment.before.channels →
    NumbersFit (later moment) → KeepsChannels moment
keeps_channels moment can kept drawn small =
    let state = moment.before in
    let action = moment.action in
    record {
      refused = λ call asks owner own other. not_owned_law state action.thread call action.line owner own other;
      owned = λ t text own keeps. stays_after state t action.thread text drawn own action.request action.line
          (λ me gives. keeps record { thread = me; gives = gives }) small;
      flows = λ id.
          flows state.channels.next id (bytes_at state.channels id) (bytes_at (later moment).channels id) (action_puts id moment) (action_takes id moment)
          (flow_after state id action.thread action.request action.line drawn small);
      kept = are_kept (later moment) (kept_after state action.thread action.request action.line can.lives kept drawn small);
    }

pub orderly : OrderlyLaw
orderly moment reached can small =
    let state = moment.before in
    let action = moment.action in
    let fits : state.channels.next < 2 ^ 64 = omega (arith, small, (up_after state action.thread action.request action.line).up) in
    record {
      arrays = keeps_arrays moment can;
      locks = keeps_locks moment (reached_have state reached);
      channels = keeps_channels moment can (reached_kept state reached fits) (reached_drawn state reached fits) small;
    }
