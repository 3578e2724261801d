-- The equation of evaluation: a job's plan is followed. Nothing else meets it.
use Rattle.std.proofs.Common.{◌≡◌, ◌<◌, ℕ, zero, suc, List, sym, ◌∙◌, arith}
use Rattle.tt_evaluation.specs.Plans.{Evaluation}
use Rattle.tt_evaluation.specs.Evaluation.{Meaning, eval, eval_within}
use Rattle.tt_evaluation.specs.EvaluationLaws.{FollowsPlans}
use Rattle.tt_evaluation.proofs.Agreement.{depths_agree, follow_agree, leaves_within}

pub eval_is : {Job Want Got Outcome State : Type 0} (plan : Meaning Job Want Got Outcome State) → FollowsPlans plan (eval plan)
unfolding eval
eval_is plan job state n answers =
    follow_agree (eval_within plan n) (eval plan) (leaves_within plan n) (plan job state) n answers
    (λ j st m rs lt. depths_agree plan n (suc m) m lt (omega arith) j st rs)

below_depth : {Job Want Got Outcome State : Type 0} (plan : Meaning Job Want Got Outcome State) (evaluate : Evaluation Job Want Got Outcome State) →
    FollowsPlans plan evaluate → (depth : ℕ) (job : Job) (state : State) (n : ℕ) (answers : List Got) → n < depth →
    eval_within plan depth job state n answers ≡ evaluate job state n answers
below_depth plan evaluate follows zero job state n answers h = absurd (omega arith)
below_depth plan evaluate follows (suc depth) job state n answers h =
    follow_agree (eval_within plan depth) evaluate (leaves_within plan depth) (plan job state) n answers
    (λ j st m rs lt. below_depth plan evaluate follows depth j st m rs (omega arith))
    ∙ sym (follows job state n answers)

pub only_eval : {Job Want Got Outcome State : Type 0} (plan : Meaning Job Want Got Outcome State) (evaluate : Evaluation Job Want Got Outcome State) →
    FollowsPlans plan evaluate → (job : Job) (state : State) (n : ℕ) (answers : List Got) → evaluate job state n answers ≡ eval plan job state n answers
unfolding eval
only_eval plan evaluate follows job state n answers =
    sym (below_depth plan evaluate follows (suc n) job state n answers (omega arith))
