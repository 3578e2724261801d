-- Posts that are taken and handed over: what an evaluation serves, answer by answer (thread(n), thread::wait).
use Rattle.std.specs.Prelude.{◌≡◌, ℕ, List, ◌++◌, drop, Option, Some, None}
use Rattle.tt_evaluation.specs.Evaluation.{Meaning}
use Rattle.tt_evaluation.specs.Plans.{Plan, Ends, Asks, Calls, Goes, posts_of}

-- of a language: the post that a job has to hand over, the one that an answer brings, and the one that is handed over
-- by what is wanted
pub record Duties (Job Want Got : Type 0) : Type 0 where
  pub owes : Job → Option ℕ
  pub taken : Want → Got → Option ℕ
  pub handed : Want → Option ℕ

-- what is served after an answer, innermost first
abbrev pub served_by : (handed taken : Option ℕ) → List ℕ → List ℕ
served_by (Some n) taken serving = drop 1 serving
served_by None taken serving = posts_of taken ++ serving

abbrev pub served_after : {Job Want Got : Type 0} → Duties Job Want Got → List ℕ → Want → Got → List ℕ
served_after duties serving want got = served_by (duties.handed want) (duties.taken want got) serving

-- What a plan that owes a post, or none, does with posts. It ends if it owes none. What it asks hands over none, and
-- after an answer it goes on so; or it hands over the one that it owes, and ends. It calls a job that owes the post of
-- the call, or goes over into one that owes what it owes. `begun` is the post that was just taken, which is that of a
-- call that comes at once.
pub data Keeps {Job Want Got Outcome State : Type 0} (duties : Duties Job Want Got) (owes : Option ℕ) :
    (begun : Option ℕ) → Plan Job Want Got Outcome State → Type 0 where
  ends : {outcome : Outcome} {state : State} → owes ≡ None → Keeps duties owes None (Ends outcome state)
  asks : {want : Want} {state : State} {on : Got → State → Plan Job Want Got Outcome State} →
      duties.handed want ≡ None →
      ((got : Got) (after : State) → Keeps duties owes (duties.taken want got) (on got after)) →
      Keeps duties owes None (Asks want state on)
  hands : {want : Want} {state : State} {on : Got → State → Plan Job Want Got Outcome State} (n : ℕ) →
      owes ≡ Some n →
      duties.handed want ≡ Some n →
      ((got : Got) (after : State) → (outcome : Outcome) × (last : State) × (on got after ≡ Ends outcome last)) →
      Keeps duties owes None (Asks want state on)
  calls : {serves : Option ℕ} {job : Job} {state : State} {on : Outcome → State → Plan Job Want Got Outcome State} →
      duties.owes job ≡ serves →
      ((outcome : Outcome) (after : State) → Keeps duties owes None (on outcome after)) →
      Keeps duties owes serves (Calls serves job state on)
  goes : {job : Job} {state : State} → duties.owes job ≡ owes → Keeps duties owes None (Goes job state)

-- a language in which every plan does
abbrev pub KeepsDuties :
    {Job Want Got Outcome State : Type 0} → Duties Job Want Got → Meaning Job Want Got Outcome State → Type 0
KeepsDuties {Job} {Want} {Got} {Outcome} {State} duties plan =
    (job : Job) (state : State) → Keeps duties (duties.owes job) None (plan job state)
