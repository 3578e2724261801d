-- The laws of evaluation, which hold for every language.
use Rattle.std.specs.Prelude.{ℕ, List, ◌+◌, ◌≤◌, ◌≡◌}
use Rattle.tt_evaluation.specs.Plans.{Stop, Fin, Evaluation, follow}
use Rattle.tt_evaluation.specs.Evaluation.{Meaning, WantsNext, eval}

-- an evaluation of each job that follows its plan, and evaluates so what the plan calls or goes over into
abbrev pub FollowsPlans :
    {Job Want Got Outcome State : Type 0} → Meaning Job Want Got Outcome State
    → Evaluation Job Want Got Outcome State → Type 0
FollowsPlans {Job} {Want} {Got} {Outcome} {State} plan evaluate =
    (job : Job) (state : State) (n : ℕ) (answers : List Got)
    → evaluate job state n answers ≡ follow evaluate (plan job state) n answers

-- `eval` does, and nothing else does
pub record EquationLaw {Job Want Got Outcome State : Type 0} (plan : Meaning Job Want Got Outcome State) : Type 0 where
  pub follows : FollowsPlans plan (eval plan)
  pub only :
      (evaluate : Evaluation Job Want Got Outcome State) → FollowsPlans plan evaluate
      → (job : Job) (state : State) (n : ℕ) (answers : List Got)
      → evaluate job state n answers ≡ eval plan job state n answers

-- more steps give the same, and leave more
pub record MoreStepsLaw {Job Want Got Outcome State : Type 0} (plan : Meaning Job Want Got Outcome State) : Type 0 where
  pub stops :
      (job : Job) (state : State) (n m : ℕ) (answers : List Got) (want : Want) (serving : List ℕ) → n ≤ m
      → eval plan job state n answers ≡ Stop want serving → eval plan job state m answers ≡ Stop want serving
  pub finishes :
      (job : Job) (state : State) (n more : ℕ) (answers : List Got)
      (outcome : Outcome) (after : State) (k : ℕ) (rest : List Got)
      → eval plan job state n answers ≡ Fin outcome after k rest
      → eval plan job state (n + more) answers ≡ Fin outcome after (k + more) rest

-- a job wants one thing next, whatever the number of steps
abbrev pub OneWantLaw : {Job Want Got Outcome State : Type 0} → Meaning Job Want Got Outcome State → Type 0
OneWantLaw {Job} {Want} {Got} {Outcome} {State} plan =
    (job : Job) (state : State) (answers : List Got) (want other : Want) (serving others : List ℕ)
    → WantsNext plan job state answers want serving
    → WantsNext plan job state answers other others
    → (want ≡ other) × (serving ≡ others)
