-- What a thread serves in a run: the scripts that it has begun and not handed over (thread(n), thread::wait).
use Rattle.std.specs.Prelude.{◌≡◌, ℕ, ◌==◌, List, [], if◌then◌else◌}
use Rattle.std.specs.List.{fold}
use Rattle.laws_serving.specs.Serving.{served_after}
use Rattle.laws_shared.specs.Actions.{Moment, action_result}
use Rattle.tt_calls.specs.declared.request.Request.{Request}
use Rattle.tt_kept.specs.declared.setup.Setup.{Setup}
use Rattle.tt_machine.specs.Machine.{Machine, Runs, ThreadAsks, start_machine}
use Rattle.tt_machine.specs.RunActions.{run_moments}

-- what a thread serves after an action, innermost first: its own actions change it alone
abbrev pub serving_after : (t : ℕ) → (serving : List ℕ) → Moment → List ℕ
serving_after t serving moment =
    if moment.action.thread == t then
    served_after serving moment.action.request (action_result moment.before moment.action).gives.reply
    else serving

-- what it serves after a list of actions, before which it serves nothing
abbrev pub serving_of : (t : ℕ) → List Moment → List ℕ
serving_of t moments = fold (serving_after t) [] moments

-- that is what it serves in a run: what its actions began and did not hand over
abbrev pub ServedLaw : Type 0
ServedLaw =
    (setup : Setup) (input : List ℕ) (machine : Machine) (schedule : List ℕ)
    (ran : Runs (start_machine setup input) schedule machine)
    (t : ℕ) (request : Request) (serving : List ℕ) →
    ThreadAsks machine t request serving →
    serving ≡ serving_of t (run_moments ran)
