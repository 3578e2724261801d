-- Plans: what a job means. A job is something that a language evaluates: a script, a command's words, a turn of a loop.
use Rattle.std.specs.Prelude.{ℕ, zero, suc, List, [], ◌∷◌, ◌++◌, Option, Some, None}

-- What a job does up to what it asks and what it has evaluated. It ends with an outcome; it asks for what it wants, and
-- goes on with what it gets; it calls a job, and goes on with that job's outcome; or it goes over into a job.
-- A call says which post it serves, if it serves one.
pub data Plan (Job Want Got Outcome State : Type 0) : Type 0 where
  Ends : Outcome → State → Plan Job Want Got Outcome State
  Asks : Want → State → (Got → State → Plan Job Want Got Outcome State) → Plan Job Want Got Outcome State
  Calls :
      (serves : Option ℕ) → Job → State → (Outcome → State → Plan Job Want Got Outcome State)
      → Plan Job Want Got Outcome State
  Goes : Job → State → Plan Job Want Got Outcome State

-- What following a plan comes to. It stops where the answers run out, at what is wanted there, with the posts that are
-- being served, innermost first; it finishes with an outcome, and with the steps and the answers that are left; or the
-- steps are spent, which nothing in a plan can see.
pub data Course (Want Got Outcome State : Type 0) : Type 0 where
  Stop : Want → (serving : List ℕ) → Course Want Got Outcome State
  Fin : Outcome → State → (steps : ℕ) → List Got → Course Want Got Outcome State
  Spent : Course Want Got Outcome State

-- the course of a job from a state on, with so many steps, if these answers are given
abbrev pub Evaluation : (Job Want Got Outcome State : Type 0) → Type 0
Evaluation Job Want Got Outcome State = Job → State → ℕ → List Got → Course Want Got Outcome State

-- what comes after an outcome
abbrev pub Rest : (Want Got Outcome State : Type 0) → Type 0
Rest Want Got Outcome State = Outcome → State → ℕ → List Got → Course Want Got Outcome State

-- the rest, if there is an outcome
abbrev pub then_do :
    {Want Got Outcome State : Type 0} → Course Want Got Outcome State → Rest Want Got Outcome State
    → Course Want Got Outcome State
then_do (Stop want serving) rest = Stop want serving
then_do (Fin outcome state n answers) rest = rest outcome state n answers
then_do Spent rest = Spent

-- the post that a call serves, if it serves one
abbrev pub posts_of : Option ℕ → List ℕ
posts_of None = []
posts_of (Some post) = post ∷ []

-- a course while a post is served: a stop names it, behind those that are served further in
abbrev pub course_with_post :
    {Want Got Outcome State : Type 0} → (serves : Option ℕ) → Course Want Got Outcome State
    → Course Want Got Outcome State
course_with_post serves (Stop want serving) = Stop want (serving ++ posts_of serves)
course_with_post serves (Fin outcome state n answers) = Fin outcome state n answers
course_with_post serves Spent = Spent

-- the next answer, or a stop
abbrev pub next_answer :
    {Want Got Outcome State : Type 0} → Want → List Got → (Got → List Got → Course Want Got Outcome State)
    → Course Want Got Outcome State
next_answer want [] go = Stop want []
next_answer want (got ∷ answers) go = go got answers

-- one step less
abbrev pub spend :
    {Want Got Outcome State : Type 0} → ℕ → (ℕ → Course Want Got Outcome State) → Course Want Got Outcome State
spend zero go = Spent
spend (suc n) go = go n

-- A plan is followed: `evaluate` is how the jobs come out that it calls or goes over into.
abbrev pub follow :
    {Job Want Got Outcome State : Type 0} → (evaluate : Evaluation Job Want Got Outcome State)
    → Plan Job Want Got Outcome State → ℕ → List Got → Course Want Got Outcome State
follow evaluate (Ends outcome state) n answers = Fin outcome state n answers
follow evaluate (Asks want state on) n answers =
    next_answer want answers (λ got rest. follow evaluate (on got state) n rest)
follow evaluate (Calls serves job state on) n answers =
    spend n (λ m.
    then_do (course_with_post serves (evaluate job state m answers)) (λ o st k rest. follow evaluate (on o st) k rest))
follow evaluate (Goes job state) n answers = spend n (λ m. evaluate job state m answers)
