-- What each thread of a run serves.
use Rattle.std.proofs.Common.{◌≡◌, ◌≢◌, ◌∙◌, ◌-◌, ◌==◌, ℕ, zero, suc, slice_get, Bool, true, false, List, [], ◌∷◌, ◌++◌, Some, None, if◌then◌else◌}
use Rattle.std.proofs.Common.{ap, append-nil, append_assoc, refl, sym, subst}
use Rattle.std.proofs.lemmas.List.Sums.{fold-append}
use Rattle.laws_runs.proofs.Places.{IsAfter, after_step, answered, begun, none_after, other}
use Rattle.laws_runs.specs.Serving.{ServedLaw, serving_after, serving_of}
use Rattle.laws_serving.proofs.Replies.{first_law, serving_law}
use Rattle.laws_serving.specs.Serving.{served_after}
use Rattle.laws_shared.proofs.Deciding.{apart, itself}
use Rattle.laws_shared.specs.Actions.{Moment, action_result}
use Rattle.tt_calls.specs.Numbers.{at_number}
use Rattle.tt_calls.specs.declared.request.Request.{Request}
use Rattle.tt_calls.specs.declared.start.Start.TheVariants as start
use Rattle.tt_kept.specs.Beginning.{IsNext}
use Rattle.tt_kept.specs.declared.setup.Setup.{Setup}
use Rattle.tt_machine.specs.Machine.{Machine, Runs, Steps, Thread, after_act, more, none, start_machine}
use Rattle.tt_machine.specs.RunActions.{run_moments, step_action}
use Rattle.tt_shared.specs.Acts.{act}
use Rattle.tt_shared.specs.State.{Acted}

-- one more action
serving_on : (t : ℕ) (seen : List Moment) (moment : Moment) → serving_of t (seen ++ moment ∷ []) ≡ serving_after t (serving_of t seen) moment
serving_on t seen moment = fold-append (serving_after t) [] seen (moment ∷ [])

-- of somebody else nothing changes
others_serve : (t : ℕ) (serving : List ℕ) (moment : Moment) → t ≢ moment.action.thread → serving_after t serving moment ≡ serving
others_serve t serving moment other_one =
    ap (λ (b : Bool). if b
    then served_after serving moment.action.request (action_result moment.before moment.action).gives.reply
    else serving) (apart moment.action.thread t (λ is. other_one (sym is)))

own_serves : (t : ℕ) (serving : List ℕ) (moment : Moment) → t ≡ moment.action.thread
    → serving_after t serving moment ≡ served_after serving moment.action.request (action_result moment.before moment.action).gives.reply
own_serves t serving moment is =
    ap (λ (b : Bool). if b
    then served_after serving moment.action.request (action_result moment.before moment.action).gives.reply
    else serving) (ap (λ (n : ℕ). moment.action.thread == n) is ∙ itself moment.action.thread)

-- what each thread asks next, it asks serving that; who isn't there has served nothing
pub record Serves (machine : Machine) (seen : List Moment) : Type 0 where
  pub there : (t : ℕ) (thread : Thread) → at_number machine.threads t ≡ Some thread
      → (request : Request) (serving : List ℕ) → IsNext machine.setup t thread.start thread.replies request serving
      → serving ≡ serving_of t seen
  pub absent : (t : ℕ) → at_number machine.threads t ≡ None → serving_of t seen ≡ []

module _ (old : Machine) (number : ℕ) {next : Machine} (step : Steps old number next) (seen : List Moment) (serves : Serves old seen) where
  abbrev moment : Moment
  moment = record { before = old.shared; action = step_action step }

  abbrev acted : Acted
  acted = act old.shared number step.can.request step.line

  abbrev asking : Thread
  asking = step.can.asks.thread

  still : (t : ℕ) → t ≢ number → serving_of t seen ≡ serving_of t (seen ++ moment ∷ [])
  still t apart = sym (serving_on t seen moment ∙ others_serve t (serving_of t seen) moment apart)

  not_itself : (t : ℕ) → at_number old.threads t ≡ None → t ≢ number
  not_itself t absent is = cc (sym absent ∙ subst (λ (n : ℕ). at_number old.threads n ≡ Some asking) (sym is) step.can.asks.made)

  -- who asked goes on with its reply
  goes_on : (request : Request) (serving : List ℕ)
      → IsNext old.setup number asking.start (asking.replies ++ acted.gives.reply ∷ []) request serving
      → serving ≡ serving_of number (seen ++ moment ∷ [])
  goes_on request serving next_is =
      serving_law old.setup number asking.start asking.replies acted.gives.reply step.can.request request step.can.serving serving
      step.can.asks.next next_is
      ∙ ap (λ (s : List ℕ). served_after s step.can.request acted.gives.reply)
      (serves.there number asking step.can.asks.made step.can.request step.can.serving step.can.asks.next)
      ∙ sym (own_serves number (serving_of number seen) moment refl)
      ∙ sym (serving_on number seen moment)

  each : (t : ℕ) (thread : Thread) (request : Request) (serving : List ℕ)
      → IsAfter old.threads number acted.gives.reply asking step.can.asks.made t thread
      → IsNext old.setup t thread.start thread.replies request serving
      → serving ≡ serving_of t (seen ++ moment ∷ [])
  each t _ request serving (answered is) next_is =
      subst (λ (n : ℕ). serving ≡ serving_of n (seen ++ moment ∷ [])) (sym is)
      (goes_on request serving
      (subst (λ (n : ℕ). IsNext old.setup n asking.start (asking.replies ++ acted.gives.reply ∷ []) request serving) is next_is))
  each t thread request serving (other apart there) next_is = serves.there t thread there request serving next_is ∙ still t apart
  each t _ request serving (begun row absent) next_is =
      first_law old.setup t row.start request serving next_is ∙ sym (serves.absent t absent) ∙ still t (not_itself t absent)

  after_it : Serves (after_act old number acted step.left) (seen ++ moment ∷ [])
  after_it = record {
    there = λ t thread there request serving next_is.
        each t thread request serving
        (after_step old.threads number acted.gives.reply asking step.can.asks.made acted.state.rows t thread there) next_is;
    absent = λ t later.
        let before = none_after old.threads number acted.gives.reply asking step.can.asks.made acted.state.rows t later in
        sym (still t (not_itself t before)) ∙ serves.absent t before;
  }

  pub serves_on : Serves next (seen ++ moment ∷ [])
  serves_on = subst (λ (m : Machine). Serves m (seen ++ moment ∷ [])) (sym step.becomes) after_it

-- ---- runs ----

along : (old new : Machine) (schedule : List ℕ) (ran : Runs old schedule new) (seen : List Moment)
    → Serves old seen → Serves new (seen ++ run_moments ran)
along old new [] none seen serves = subst (Serves old) (sym (append-nil seen)) serves
along old new (number ∷ schedule) (more {next = next} step rest) seen serves =
    let here : Moment = record { before = old.shared; action = step_action step } in
    subst (Serves new) (append_assoc seen (here ∷ []) (run_moments rest))
    (along next new schedule rest (seen ++ here ∷ []) (serves_on old number step seen serves))

alone_there : (one : Thread) (t : ℕ) (thread : Thread) → at_number (one ∷ []) t ≡ Some thread → thread ≡ one
alone_there one t thread = go (t == 0)
  where
    at : (i : ℕ) → slice_get (one ∷ []) i ≡ Some thread → thread ≡ one
    at zero there = cc there
    at (suc i) there = absurd (cc there)

    go : (b : Bool) → (if b then None else slice_get (one ∷ []) (t - 1)) ≡ Some thread → thread ≡ one
    go true there = absurd (cc there)
    go false there = at (t - 1) there

pub at_start : (setup : Setup) (input : List ℕ) → Serves (start_machine setup input) []
at_start setup input = record {
  there = λ t thread there request serving next_is.
      first_law setup t (start.Script setup.script) request serving
      (subst (λ (one : Thread). IsNext setup t one.start one.replies request serving)
      (alone_there (record { start = start.Script setup.script; replies = [] }) t thread there) next_is);
  absent = λ t there. refl;
}

-- what was served so far, at each machine of a run
pub run_serves : (setup : Setup) (input : List ℕ) (machine : Machine) (schedule : List ℕ)
    → (ran : Runs (start_machine setup input) schedule machine) → Serves machine (run_moments ran)
run_serves setup input machine schedule ran = along (start_machine setup input) machine schedule ran [] (at_start setup input)

pub served_law : ServedLaw
served_law setup input machine schedule ran t request serving asks =
    (run_serves setup input machine schedule ran).there t asks.thread asks.made request serving
    (subst (λ (one : Setup). IsNext one t asks.thread.start asks.thread.replies request serving) refl asks.next)
