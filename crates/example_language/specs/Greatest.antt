-- What the jobs mean: a loop that asks for numbers and keeps the greatest, and events that are served by it.
use Rattle.std.specs.Prelude.{ℕ, zero, suc, max, [], ◌∷◌, Some, None, ◌≡◌}
use Rattle.tt_evaluation.specs.Plans.{Plan, Ends, Asks, Calls, Goes, Stop, Fin, Spent}
use Rattle.tt_evaluation.specs.Evaluation.{eval}
use Rattle.example_language.specs.declared.language.Job.{Job}
use Rattle.example_language.specs.declared.language.Job.TheVariants as job
use Rattle.example_language.specs.declared.language.Want.{Want}
use Rattle.example_language.specs.declared.language.Want.TheVariants.{Number, Deliver}
use Rattle.example_language.specs.declared.language.Frame.{Frame}
use Rattle.example_language.specs.declared.language.Frame.TheVariants as frame
use Rattle.example_language.specs.declared.language.Asking.{Asking}
use Rattle.example_language.specs.declared.language.Asking.TheVariants as asking

-- a plan of the language
abbrev pub JobPlan : Type 0
JobPlan = Plan Job Want ℕ ℕ ℕ

-- what an asking means
abbrev pub on_got : Asking → ℕ → ℕ → JobPlan
on_got (asking.Counts n) got state = Goes (job.Greatest n) (max state got)
on_got (asking.Delivers outcome) got state = Ends outcome state

-- what a frame means
abbrev pub after : Frame → ℕ → ℕ → JobPlan
after frame.Same outcome state = Ends outcome state
after frame.Delivers outcome state = Asks (Deliver outcome) state (on_got (asking.Delivers outcome))

-- what a job means
abbrev pub plan : Job → ℕ → JobPlan
plan (job.Greatest zero) state = Ends state state
plan (job.Greatest (suc n)) state = Asks Number state (λ got st. Goes (job.Greatest n) (max st got))
plan (job.Event post n) state = Calls (Some post) (job.Delivery n) state (λ o st. Ends o st)
plan (job.Nested post inner n) state = Calls (Some post) (job.Event inner n) state (λ o st. Ends o st)
plan (job.Delivery n) state =
    Calls None (job.Greatest n) state (λ o st. Asks (Deliver o) st (λ got st'. Ends o st'))

-- worked evaluations
pub record WorkedPlans : Type 0 where
  pub stops : eval plan (job.Greatest 2) 0 9 (4 ∷ []) ≡ Stop Number []
  pub finishes : eval plan (job.Greatest 2) 0 9 (4 ∷ 7 ∷ 5 ∷ []) ≡ Fin 7 7 7 (5 ∷ [])
  pub serves : eval plan (job.Event 3 1) 0 9 [] ≡ Stop Number (3 ∷ [])
  pub delivers : eval plan (job.Event 3 1) 0 9 (4 ∷ []) ≡ Stop (Deliver 4) (3 ∷ [])
  pub served : eval plan (job.Event 3 1) 0 9 (4 ∷ 0 ∷ []) ≡ Fin 4 4 6 []
  pub nested : eval plan (job.Nested 3 5 1) 0 9 [] ≡ Stop Number (5 ∷ 3 ∷ [])
  pub spent : eval plan (job.Event 3 1) 0 1 (4 ∷ []) ≡ Spent
