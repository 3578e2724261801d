-- More steps give the same.
use Rattle.std.proofs.Common.{◌≡◌, ◌≤◌, ℕ, zero, suc, ◌+◌, ◌-◌, List, [], ◌∷◌, Option, refl, sym, ap, subst, arith}
use Rattle.std.specs.Prelude.{⊤}
use Rattle.tt_evaluation.specs.Plans.{Plan, Ends, Asks, Calls, Goes, Course, Stop, Fin, Spent, Evaluation, Rest, then_do, course_with_post, follow}
use Rattle.tt_evaluation.specs.Evaluation.{Meaning, eval, eval_within}
use Rattle.tt_evaluation.specs.EvaluationLaws.{OneWantLaw}

-- a course, and that with one step more
abbrev Extends : {Want Got Outcome State : Type 0} → Course Want Got Outcome State → Course Want Got Outcome State → Type 0
Extends (Stop want serving) other = other ≡ Stop want serving
Extends (Fin outcome state n answers) other = other ≡ Fin outcome state (suc n) answers
Extends Spent other = ⊤

abbrev AllExtend : {Job Want Got Outcome State : Type 0} → Evaluation Job Want Got Outcome State → Evaluation Job Want Got Outcome State → Type 0
AllExtend {Job} {Want} {Got} {Outcome} {State} first second =
    (job : Job) (state : State) (n : ℕ) (answers : List Got) → Extends (first job state n answers) (second job state (suc n) answers)

then_goes_on : {Want Got Outcome State : Type 0} (serves : Option ℕ) (course other : Course Want Got Outcome State)
    (first second : Rest Want Got Outcome State) → Extends course other →
    ((outcome : Outcome) (state : State) (n : ℕ) (answers : List Got) → Extends (first outcome state n answers) (second outcome state (suc n) answers)) →
    Extends (then_do (course_with_post serves course) first) (then_do (course_with_post serves other) second)
then_goes_on {Want} {Got} {Outcome} {State} serves (Stop want serving) other first second h all =
    ap (λ (c : Course Want Got Outcome State). then_do (course_with_post serves c) second) h
then_goes_on {Want} {Got} {Outcome} {State} serves (Fin outcome state n answers) other first second h all =
    subst (λ (c : Course Want Got Outcome State). Extends (first outcome state n answers) (then_do (course_with_post serves c) second)) (sym h)
    (all outcome state n answers)
then_goes_on serves Spent other first second h all = tt

follow_goes_on : {Job Want Got Outcome State : Type 0} (first second : Evaluation Job Want Got Outcome State) → AllExtend first second →
    (plan : Plan Job Want Got Outcome State) (n : ℕ) (answers : List Got) → Extends (follow first plan n answers) (follow second plan (suc n) answers)
follow_goes_on first second all (Ends outcome state) n answers = refl
follow_goes_on first second all (Asks want state on) n [] = refl
follow_goes_on first second all (Asks want state on) n (got ∷ answers) = follow_goes_on first second all (on got state) n answers
follow_goes_on first second all (Calls serves job state on) zero answers = tt
follow_goes_on {Job} {Want} {Got} {Outcome} {State} first second all (Calls serves job state on) (suc n) answers =
    let one : Rest Want Got Outcome State = λ o st k more. follow first (on o st) k more in
    let two : Rest Want Got Outcome State = λ o st k more. follow second (on o st) k more in
    then_goes_on serves (first job state n answers) (second job state (suc n) answers) one two (all job state n answers)
    (λ o st k more. follow_goes_on first second all (on o st) k more)
follow_goes_on first second all (Goes job state) zero answers = tt
follow_goes_on first second all (Goes job state) (suc n) answers = all job state n answers

within_goes_on : {Job Want Got Outcome State : Type 0} (plan : Meaning Job Want Got Outcome State) (depth : ℕ) →
    AllExtend (eval_within plan depth) (eval_within plan (suc depth))
within_goes_on plan zero = λ job state n answers. tt
within_goes_on plan (suc depth) =
    λ job state n answers. follow_goes_on (eval_within plan depth) (eval_within plan (suc depth)) (within_goes_on plan depth) (plan job state) n answers

eval_goes_on : {Job Want Got Outcome State : Type 0} (plan : Meaning Job Want Got Outcome State) → AllExtend (eval plan) (eval plan)
unfolding eval
eval_goes_on plan job state n answers = within_goes_on plan (suc n) job state n answers

stops_by : {Job Want Got Outcome State : Type 0} (plan : Meaning Job Want Got Outcome State) (job : Job) (state : State) (answers : List Got) (want : Want)
    (serving : List ℕ) (more n m : ℕ) → m ≡ n + more → eval plan job state n answers ≡ Stop want serving → eval plan job state m answers ≡ Stop want serving
stops_by plan job state answers want serving zero n m e h =
    let same : n ≡ m = omega arith in subst (λ (k : ℕ). eval plan job state k answers ≡ Stop want serving) same h
stops_by {Job} {Want} {Got} {Outcome} {State} plan job state answers want serving (suc more) n m e h =
    stops_by plan job state answers want serving more (suc n) m (omega arith)
    (subst (λ (c : Course Want Got Outcome State). Extends c (eval plan job state (suc n) answers)) h (eval_goes_on plan job state n answers))

pub stops_again : {Job Want Got Outcome State : Type 0} (plan : Meaning Job Want Got Outcome State) (job : Job) (state : State) (n m : ℕ)
    (answers : List Got) (want : Want) (serving : List ℕ) → n ≤ m → eval plan job state n answers ≡ Stop want serving →
    eval plan job state m answers ≡ Stop want serving
stops_again plan job state n m answers want serving le h = stops_by plan job state answers want serving (m - n) n m (omega arith) h

finishes_by : {Job Want Got Outcome State : Type 0} (plan : Meaning Job Want Got Outcome State) (job : Job) (state : State) (answers : List Got)
    (outcome : Outcome) (after : State) (rest : List Got) (more n k m i : ℕ) → m ≡ n + more → i ≡ k + more →
    eval plan job state n answers ≡ Fin outcome after k rest → eval plan job state m answers ≡ Fin outcome after i rest
finishes_by plan job state answers outcome after rest zero n k m i e d h =
    let same : n ≡ m = omega arith in
    let left : k ≡ i = omega arith in
    subst (λ (x : ℕ). eval plan job state m answers ≡ Fin outcome after x rest) left
    (subst (λ (x : ℕ). eval plan job state x answers ≡ Fin outcome after k rest) same h)
finishes_by {Job} {Want} {Got} {Outcome} {State} plan job state answers outcome after rest (suc more) n k m i e d h =
    finishes_by plan job state answers outcome after rest more (suc n) (suc k) m i (omega arith) (omega arith)
    (subst (λ (c : Course Want Got Outcome State). Extends c (eval plan job state (suc n) answers)) h (eval_goes_on plan job state n answers))

pub finishes_again : {Job Want Got Outcome State : Type 0} (plan : Meaning Job Want Got Outcome State) (job : Job) (state : State) (n more : ℕ)
    (answers : List Got) (outcome : Outcome) (after : State) (k : ℕ) (rest : List Got) → eval plan job state n answers ≡ Fin outcome after k rest →
    eval plan job state (n + more) answers ≡ Fin outcome after (k + more) rest
finishes_again plan job state n more answers outcome after k rest h =
    finishes_by plan job state answers outcome after rest more n k (n + more) (k + more) refl refl h

one_stop : {Want Got Outcome State : Type 0} (course : Course Want Got Outcome State) (want other : Want) (serving others : List ℕ) →
    course ≡ Stop want serving → course ≡ Stop other others → (want ≡ other) × (serving ≡ others)
one_stop course want other serving others first second = (cc, cc)

pub one_want : {Job Want Got Outcome State : Type 0} (plan : Meaning Job Want Got Outcome State) → OneWantLaw plan
one_want plan job state answers want other serving others first second =
    let n = first.0 + second.0 in
    one_stop (eval plan job state n answers) want other serving others
    (stops_again plan job state first.0 n answers want serving (omega arith) first.1)
    (stops_again plan job state second.0 n answers other others (omega arith) second.1)
