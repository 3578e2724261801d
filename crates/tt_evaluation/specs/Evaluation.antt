-- Evaluation: a job's plan is followed, and so are the plans of the jobs that it calls or goes over into.
use Rattle.std.specs.Prelude.{ℕ, zero, suc, List, ◌≡◌}
use Rattle.tt_evaluation.specs.Plans.{Plan, Stop, Spent, Evaluation, follow}

-- what the jobs of a language mean
abbrev pub Meaning : (Job Want Got Outcome State : Type 0) → Type 0
Meaning Job Want Got Outcome State = Job → State → Plan Job Want Got Outcome State

-- jobs within jobs, no deeper than this
abbrev pub eval_within :
    {Job Want Got Outcome State : Type 0} → Meaning Job Want Got Outcome State → (depth : ℕ)
    → Evaluation Job Want Got Outcome State
eval_within plan zero job state n answers = Spent
eval_within plan (suc depth) job state n answers = follow (eval_within plan depth) (plan job state) n answers

-- Evaluation. Each call, and each going over, takes a step: so they are no deeper than there are steps.
unfoldable pub eval :
    {Job Want Got Outcome State : Type 0} → Meaning Job Want Got Outcome State
    → Evaluation Job Want Got Outcome State
eval plan job state n answers = eval_within plan (suc n) job state n answers

-- the job wants this next, after these answers, while it serves these posts: with some number of steps
abbrev pub WantsNext :
    {Job Want Got Outcome State : Type 0} → Meaning Job Want Got Outcome State → Job → State → List Got → Want
    → List ℕ → Type 0
WantsNext plan job state answers want serving = (n : ℕ) × (eval plan job state n answers ≡ Stop want serving)
