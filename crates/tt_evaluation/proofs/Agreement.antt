-- No evaluation has more steps left than it had, and one that is known below some number of steps is known there.
use Rattle.std.proofs.Common.{◌≡◌, ◌<◌, ◌≤◌, ℕ, zero, suc, List, [], ◌∷◌, Option, refl, ap, ◌∙◌, arith}
use Rattle.std.specs.Prelude.{⊤}
use Rattle.tt_evaluation.specs.Plans.{Plan, Ends, Asks, Calls, Goes, Course, Stop, Fin, Spent, Evaluation, Rest, then_do, course_with_post, follow}
use Rattle.tt_evaluation.specs.Evaluation.{Meaning, eval_within}

-- so many steps are left at most
abbrev pub Leaves : {Want Got Outcome State : Type 0} → ℕ → Course Want Got Outcome State → Type 0
Leaves n (Stop want serving) = ⊤
Leaves n (Fin outcome state m answers) = m ≤ n
Leaves n Spent = ⊤

abbrev pub IsBounded : {Job Want Got Outcome State : Type 0} → Evaluation Job Want Got Outcome State → Type 0
IsBounded {Job} {Want} {Got} {Outcome} {State} evaluate =
    (job : Job) (state : State) (n : ℕ) (answers : List Got) → Leaves n (evaluate job state n answers)

leaves_more : {Want Got Outcome State : Type 0} (m n : ℕ) (course : Course Want Got Outcome State) → m ≤ n → Leaves m course → Leaves n course
leaves_more m n (Stop want serving) le h = tt
leaves_more m n (Fin outcome state k answers) le h = omega arith
leaves_more m n Spent le h = tt

leaves_served : {Want Got Outcome State : Type 0} (n : ℕ) (serves : Option ℕ) (course : Course Want Got Outcome State) → Leaves n course →
    Leaves n (course_with_post serves course)
leaves_served n serves (Stop want serving) h = tt
leaves_served n serves (Fin outcome state m answers) h = h
leaves_served n serves Spent h = tt

leaves_then : {Want Got Outcome State : Type 0} (n : ℕ) (course : Course Want Got Outcome State) (rest : Rest Want Got Outcome State) → Leaves n course →
    ((outcome : Outcome) (state : State) (m : ℕ) (answers : List Got) → Leaves m (rest outcome state m answers)) → Leaves n (then_do course rest)
leaves_then n (Stop want serving) rest h all = tt
leaves_then n (Fin outcome state m answers) rest h all = leaves_more m n (rest outcome state m answers) h (all outcome state m answers)
leaves_then n Spent rest h all = tt

leaves_follow : {Job Want Got Outcome State : Type 0} (evaluate : Evaluation Job Want Got Outcome State) → IsBounded evaluate →
    (plan : Plan Job Want Got Outcome State) (n : ℕ) (answers : List Got) → Leaves n (follow evaluate plan n answers)
leaves_follow evaluate all (Ends outcome state) n answers = omega arith
leaves_follow evaluate all (Asks want state on) n [] = tt
leaves_follow evaluate all (Asks want state on) n (got ∷ answers) = leaves_follow evaluate all (on got state) n answers
leaves_follow evaluate all (Calls serves job state on) zero answers = tt
leaves_follow {Job} {Want} {Got} {Outcome} {State} evaluate all (Calls serves job state on) (suc n) answers =
    let rest : Rest Want Got Outcome State = λ o st k more. follow evaluate (on o st) k more in
    let course = course_with_post serves (evaluate job state n answers) in
    leaves_more n (suc n) (then_do course rest) (omega arith)
    (leaves_then n course rest (leaves_served n serves (evaluate job state n answers) (all job state n answers))
    (λ o st k more. leaves_follow evaluate all (on o st) k more))
leaves_follow evaluate all (Goes job state) zero answers = tt
leaves_follow evaluate all (Goes job state) (suc n) answers = leaves_more n (suc n) (evaluate job state n answers) (omega arith) (all job state n answers)

pub leaves_within : {Job Want Got Outcome State : Type 0} (plan : Meaning Job Want Got Outcome State) (depth : ℕ) → IsBounded (eval_within plan depth)
leaves_within plan zero = λ job state n answers. tt
leaves_within plan (suc depth) = λ job state n answers. leaves_follow (eval_within plan depth) (leaves_within plan depth) (plan job state) n answers

-- two evaluations are the same with fewer steps than these
abbrev pub AgreeBelow : {Job Want Got Outcome State : Type 0} → ℕ → Evaluation Job Want Got Outcome State → Evaluation Job Want Got Outcome State → Type 0
AgreeBelow {Job} {Want} {Got} {Outcome} {State} n first second =
    (job : Job) (state : State) (m : ℕ) (answers : List Got) → m < n → first job state m answers ≡ second job state m answers

then_agree : {Want Got Outcome State : Type 0} (n : ℕ) (course : Course Want Got Outcome State) (first second : Rest Want Got Outcome State) →
    Leaves n course →
    ((outcome : Outcome) (state : State) (m : ℕ) (answers : List Got) → m ≤ n → first outcome state m answers ≡ second outcome state m answers) →
    then_do course first ≡ then_do course second
then_agree n (Stop want serving) first second h all = refl
then_agree n (Fin outcome state m answers) first second h all = all outcome state m answers h
then_agree n Spent first second h all = refl

pub follow_agree : {Job Want Got Outcome State : Type 0} (first second : Evaluation Job Want Got Outcome State) → IsBounded first →
    (plan : Plan Job Want Got Outcome State) (n : ℕ) (answers : List Got) → AgreeBelow n first second →
    follow first plan n answers ≡ follow second plan n answers
follow_agree first second bounded (Ends outcome state) n answers agree = refl
follow_agree first second bounded (Asks want state on) n [] agree = refl
follow_agree first second bounded (Asks want state on) n (got ∷ answers) agree = follow_agree first second bounded (on got state) n answers agree
follow_agree first second bounded (Calls serves job state on) zero answers agree = refl
follow_agree {Job} {Want} {Got} {Outcome} {State} first second bounded (Calls serves job state on) (suc n) answers agree =
    let one : Rest Want Got Outcome State = λ o st k more. follow first (on o st) k more in
    let two : Rest Want Got Outcome State = λ o st k more. follow second (on o st) k more in
    let course = course_with_post serves (first job state n answers) in
    then_agree n course one two (leaves_served n serves (first job state n answers) (bounded job state n answers))
    (λ o st k more le. follow_agree first second bounded (on o st) k more (λ j s i rs lt. agree j s i rs (omega arith)))
    ∙ ap (λ (c : Course Want Got Outcome State). then_do (course_with_post serves c) two) (agree job state n answers (omega arith))
follow_agree first second bounded (Goes job state) zero answers agree = refl
follow_agree first second bounded (Goes job state) (suc n) answers agree = agree job state n answers (omega arith)

-- how deep jobs may lie makes no difference if it is more than there are steps
pub depths_agree : {Job Want Got Outcome State : Type 0} (plan : Meaning Job Want Got Outcome State) (one two n : ℕ) → n < one → n < two →
    (job : Job) (state : State) (answers : List Got) → eval_within plan one job state n answers ≡ eval_within plan two job state n answers
depths_agree plan zero two n h k job state answers = absurd (omega arith)
depths_agree plan (suc one) zero n h k job state answers = absurd (omega arith)
depths_agree plan (suc one) (suc two) n h k job state answers =
    follow_agree (eval_within plan one) (eval_within plan two) (leaves_within plan one) (plan job state) n answers
    (λ j st m rs lt. depths_agree plan one two m (omega arith) (omega arith) j st rs)
