-- Each thread of a run that has not ended asks something.
use Rattle.std.proofs.Common.{◌≡◌, ◌⊎◌, ◌∙◌, ◌-◌, ◌==◌, if◌then◌else◌, slice_get, ℕ, Bool, true, false, List}
use Rattle.std.proofs.Common.{[], ◌∷◌, ◌++◌, Option, Some, None, inl, inr, refl, sym, subst}
use Rattle.laws_answers.proofs.Whole.{always_asks_on}
use Rattle.laws_living.proofs.Ended.{is_there, last_request, moves_stay}
use Rattle.laws_living.specs.Living.{IsWaiting, LivingLaw}
use Rattle.laws_shared.proofs.Numbered.{by_more}
use Rattle.laws_runs.proofs.Places.{IsAfter, after_step, answered, begun, other}
use Rattle.laws_sends.proofs.Actions.{by_action, many}
use Rattle.laws_sends.proofs.Threads.{living_not_ended}
use Rattle.laws_sends.proofs.Views.{has_ended}
use Rattle.laws_shared.proofs.Mild.{HaveQueues}
use Rattle.laws_shared.specs.Actions.{Moment}
use Rattle.laws_shared.specs.Happenings.{happenings_by}
use Rattle.tt_calls.specs.Numbers.{at_number}
use Rattle.tt_calls.specs.declared.request.Request.{Request}
use Rattle.tt_calls.specs.declared.start.Start.TheVariants as start
use Rattle.tt_kept.specs.Asking.{goes_on}
use Rattle.tt_kept.specs.Beginning.{IsNext}
use Rattle.tt_kept.specs.declared.setup.Setup.{Setup}
use Rattle.tt_machine.specs.Machine.{CanStep, Machine, Runs, Steps, Thread, ThreadAsks, after_act, more, none, start_machine, with_reply}
use Rattle.tt_machine.specs.RunActions.{step_action}
use Rattle.tt_shared.specs.Acts.{act}
use Rattle.tt_shared.specs.Enabled.{enabled}
use Rattle.tt_shared.specs.State.{Acted}
use Rattle.tt_threads.specs.Rows.{is_living}

-- what a thread asks next
record HasNext (setup : Setup) (t : ℕ) (thread : Thread) : Type 0 where
  request : Request
  serving : List ℕ
  next : IsNext setup t thread.start thread.replies request serving

-- a thread that is there and has not ended asks something, and who lives is there
record Asks (machine : Machine) : Type 0 where
  queues : HaveQueues machine.shared
  each : machine.shared.over ≡ None → (t : ℕ) (thread : Thread) → at_number machine.threads t ≡ Some thread
      → has_ended machine.shared.rows t ≡ false → HasNext machine.setup t thread
  there : (t : ℕ) → is_living machine.shared.rows t ≡ true → (thread : Thread) × (at_number machine.threads t ≡ Some thread)

module _ (old : Machine) (number : ℕ) {next : Machine} (step : Steps old number next) (asks : Asks old) where
  abbrev acted : Acted
  acted = act old.shared number step.can.request step.line

  abbrev asking : Thread
  asking = step.can.asks.thread

  abbrev moment : Moment
  moment = record { before = old.shared; action = step_action step }

  -- who has not ended had not ended before
  not_before : (t : ℕ) → has_ended acted.state.rows t ≡ false → has_ended old.shared.rows t ≡ false
  not_before t still = go (has_ended old.shared.rows t) refl
    where
      go : (b : Bool) → has_ended old.shared.rows t ≡ b → b ≡ false
      go true was =
          let ended = moves_stay old.shared acted.state (happenings_by moment) (by_action moment asks.queues step.can.asks.lives) t was in
          let both_ways : true ≡ false = sym ended ∙ still in
          absurd (cc both_ways)
      go false was = refl

  replied : acted.state.over ≡ None → has_ended acted.state.rows number ≡ false
      → (b : Bool) → goes_on step.can.request ≡ b
      → HasNext old.setup number (record asking { replies = asking.replies ++ acted.gives.reply ∷ [] })
  replied over still true goes =
      let following =
      (always_asks_on old.setup number asking.start).next asking.replies step.can.request step.can.serving acted.gives.reply step.can.asks.next goes in
      record { request = following.0; serving = following.1; next = following.2 }
  replied over still false last =
      absurd (last_request old.shared number step.can.request step.line last step.can.asks.lives over still)

  after_each : acted.state.over ≡ None → (t : ℕ) (thread : Thread)
      → IsAfter old.threads number acted.gives.reply asking step.can.asks.made t thread
      → has_ended acted.state.rows t ≡ false → HasNext old.setup t thread
  after_each over t _ (answered is) still =
      subst (λ (n : ℕ). HasNext old.setup n (record asking { replies = asking.replies ++ acted.gives.reply ∷ [] })) (sym is)
      (replied over (subst (λ (n : ℕ). has_ended acted.state.rows n ≡ false) is still) (goes_on step.can.request) refl)
  after_each over t thread (other apart there) still = asks.each step.can.going t thread there (not_before t still)
  after_each over t _ (begun row absent) still =
      let first = (always_asks_on old.setup t row.start).first in
      record { request = first.0; serving = first.1; next = first.2 }

  after_it : Asks (after_act old number acted step.left)
  after_it = record {
    queues = many old.shared number step.can.request step.line asks.queues;
    each = λ over t thread there still.
        after_each over t thread
        (after_step old.threads number acted.gives.reply asking step.can.asks.made acted.state.rows t thread there) still;
    there = λ t lives. is_there (with_reply old.threads number acted.gives.reply) acted.state.rows t lives;
  }

  asks_on : Asks next
  asks_on = subst Asks (sym step.becomes) after_it

-- ---- runs ----

along : (old new : Machine) (schedule : List ℕ) → Runs old schedule new → Asks old → Asks new
along old new [] none asks = asks
along old new (number ∷ schedule) (more {next = next} step rest) asks = along next new schedule rest (asks_on old number step asks)

nobody : (t : ℕ) (thread : Thread) → at_number [] t ≡ Some thread → ⊥
nobody t thread = go (t == 0)
  where
    go : (b : Bool) → (if b then None else slice_get [] (t - 1)) ≡ Some thread → ⊥
    go true there = cc there
    go false there = cc there

first_asks : (setup : Setup) (t : ℕ) (thread : Thread)
    → at_number ((record { start = start.Script setup.script; replies = [] }) ∷ []) t ≡ Some thread → HasNext setup t thread
first_asks setup t thread =
    by_more (λ (found : Option Thread). found ≡ Some thread → HasNext setup t thread) [] t (record { start = start.Script setup.script; replies = [] })
    (λ none last is.
    let same : record { start = start.Script setup.script; replies = [] } ≡ thread = cc is in
    let first = (always_asks_on setup t (start.Script setup.script)).first in
    subst (HasNext setup t) same (record { request = first.0; serving = first.1; next = first.2 }))
    (λ there. absurd (nobody t thread there))

at_start : (setup : Setup) (input : List ℕ) → Asks (start_machine setup input)
at_start setup input = record {
  queues = refl;
  each = λ over t thread there still. first_asks setup t thread there;
  there = λ t lives. is_there [] (start_machine setup input).shared.rows t lives;
}

pub living_law : LivingLaw
living_law setup input machine schedule t ran over lives = go (enabled machine.shared t found.request) refl
  where
    asks : Asks machine
    asks = along (start_machine setup input) machine schedule ran (at_start setup input)

    at : (thread : Thread) × (at_number machine.threads t ≡ Some thread)
    at = asks.there t lives

    found : HasNext machine.setup t at.0
    found = asks.each over t at.0 at.1 (living_not_ended machine.shared.rows t lives)

    asked : ThreadAsks machine t found.request found.serving
    asked = record { thread = at.0; made = at.1; lives = lives; next = found.next }

    go : (b : Bool) → enabled machine.shared t found.request ≡ b → CanStep machine t ⊎ IsWaiting machine t
    go true is = inl (record { request = found.request; serving = found.serving; going = over; asks = asked; enabled = is })
    go false is = inr (record { request = found.request; serving = found.serving; asks = asked; waits = is })
