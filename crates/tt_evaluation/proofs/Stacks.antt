-- Courses within the calls of a stack, and what each move of a machine does to them.
use Rattle.std.proofs.Common.{◌≡◌, ℕ, suc, ◌+◌, List, [], ◌∷◌, ◌++◌, Option, refl, sym, ap, ◌∙◌, arith}
use Rattle.std.specs.Prelude.{Some}
use Rattle.tt_evaluation.specs.Plans.{Plan, Ends, Course, Stop, Fin, Evaluation, spend, follow}
use Rattle.tt_evaluation.specs.Evaluation.{Meaning, eval}
use Rattle.tt_evaluation.specs.Frames.{After, OnGot, finish, from_halt, plan_of, serving_of, with_answer, within}
use Rattle.tt_evaluation.specs.inside.Moves.{from_move, from_standing}
use Rattle.tt_evaluation.specs.declared.language.Move.{Move}
use Rattle.tt_evaluation.specs.declared.language.Move.TheVariants.{Call}
use Rattle.tt_evaluation.specs.declared.stack.Standing.{Standing}
use Rattle.tt_evaluation.specs.declared.stack.Standing.TheVariants as standing
use Rattle.tt_evaluation.specs.declared.stack.Halt.TheVariants.{Wants}
use Rattle.tt_evaluation.specs.declared.stack.Pending.{Pending}
use Rattle.tt_evaluation.specs.declared.stack.Stack.{Stack}
use Rattle.tt_evaluation.proofs.Evaluations.{eval_is}

-- a call that is pushed is the newest
finish_push : {Job Want Got Outcome State Frame : Type 0} (evaluate : Evaluation Job Want Got Outcome State)
    (after : After Job Want Got Outcome State Frame) (calls : List (Pending Frame)) (call : Pending Frame) (course : Course Want Got Outcome State) →
    finish evaluate after (calls ++ call ∷ []) course ≡ finish evaluate after calls (within evaluate after call course)
finish_push evaluate after [] call course = refl
finish_push evaluate after (first ∷ calls) call course = ap (within evaluate after first) (finish_push evaluate after calls call course)

-- a stop comes out of a stack with the posts that it serves
pub finish_stop : {Job Want Got Outcome State Frame : Type 0} (evaluate : Evaluation Job Want Got Outcome State)
    (after : After Job Want Got Outcome State Frame) (calls : List (Pending Frame)) (want : Want) →
    finish evaluate after calls (Stop want []) ≡ Stop want (serving_of calls)
finish_stop evaluate after [] want = refl
finish_stop evaluate after (call ∷ calls) want = ap (within evaluate after call) (finish_stop evaluate after calls want)

-- a stack halts at what is asked
pub halts : {Job Want Got Outcome State Frame Asking : Type 0} (plan : Meaning Job Want Got Outcome State) (after : After Job Want Got Outcome State Frame)
    (on_got : OnGot Job Want Got Outcome State Asking) (place : Standing Want Outcome Asking) (stack : Stack State Frame Asking) (want : Want)
    (asking : Asking) (answers : List Got) (course : Course Want Got Outcome State) → place ≡ standing.Asks want asking → stack.asking ≡ Some asking →
    from_standing plan after on_got place stack.calls.items stack.state stack.steps answers ≡ course →
    from_halt plan after on_got (Wants want) stack answers ≡ course
halts {Job} {Want} {Got} {Outcome} {State} {Frame} {Asking} plan after on_got place stack want asking [] course e is same =
    sym (finish_stop (eval plan) after stack.calls.items want)
    ∙ ap (λ (s : Standing Want Outcome Asking). from_standing plan after on_got s stack.calls.items stack.state stack.steps []) (sym e)
    ∙ same
halts {Job} {Want} {Got} {Outcome} {State} {Frame} {Asking} plan after on_got place stack want asking (got ∷ answers) course e is same =
    ap (λ (o : Option Asking). with_answer plan after on_got o stack.calls.items stack.state stack.steps got answers) is
    ∙ ap (λ (s : Standing Want Outcome Asking). from_standing plan after on_got s stack.calls.items stack.state stack.steps (got ∷ answers)) (sym e)
    ∙ same

-- a step is there, and is spent
spend_step : {Want Got Outcome State : Type 0} (n m : ℕ) (go : ℕ → Course Want Got Outcome State) → n ≡ m + 1 → spend n go ≡ go m
spend_step n m go e = let next : n ≡ suc m = omega arith in rw next refl

-- a job that is begun is evaluated
pub begun : {Job Want Got Outcome State : Type 0} (plan : Meaning Job Want Got Outcome State) (job : Job) (state after : State)
    (next : State → Plan Job Want Got Outcome State) (n : ℕ) (answers : List Got) → plan job state ≡ next after →
    follow (eval plan) (next after) n answers ≡ eval plan job state n answers
begun {Job} {Want} {Got} {Outcome} {State} plan job state after next n answers e =
    ap (λ (p : Plan Job Want Got Outcome State). follow (eval plan) p n answers) (sym e) ∙ sym (eval_is plan job state n answers)

-- a job is begun if no call is open
pub started : {Job Want Got Outcome State Frame Asking : Type 0} (plan : Meaning Job Want Got Outcome State)
    (after : After Job Want Got Outcome State Frame) (on_got : OnGot Job Want Got Outcome State Asking) (move : Move Job Want Outcome Frame Asking)
    (calls : List (Pending Frame)) (job : Job) (before state : State) (n : ℕ) (answers : List Got) (course : Course Want Got Outcome State) → calls ≡ [] →
    plan job before ≡ plan_of after on_got move state → course ≡ from_move plan after on_got move calls state n answers →
    course ≡ eval plan job before n answers
started {Job} {Want} {Got} {Outcome} {State} {Frame} {Asking} plan after on_got move calls job before state n answers course none e is =
    is ∙ ap (λ (c : List (Pending Frame)). from_move plan after on_got move c state n answers) none
    ∙ begun plan job before state (plan_of after on_got move) n answers e

-- a job is called
pub called : {Job Want Got Outcome State Frame Asking : Type 0} (plan : Meaning Job Want Got Outcome State)
    (after : After Job Want Got Outcome State Frame) (on_got : OnGot Job Want Got Outcome State Asking) (move : Move Job Want Outcome Frame Asking)
    (calls pushed : List (Pending Frame)) (call : Pending Frame) (job : Job) (state : State) (n m : ℕ) (answers : List Got)
    (course : Course Want Got Outcome State) → move ≡ Call call.serves job call.frame → pushed ≡ calls ++ call ∷ [] → n ≡ m + 1 →
    course ≡ eval plan job state m answers → finish (eval plan) after pushed course ≡ from_move plan after on_got move calls state n answers
called {Job} {Want} {Got} {Outcome} {State} {Frame} {Asking} plan after on_got move calls pushed call job state n m answers course s p e is =
    ap (λ (c : List (Pending Frame)). finish (eval plan) after c course) p
    ∙ finish_push (eval plan) after calls call course
    ∙ ap (λ (c : Course Want Got Outcome State). finish (eval plan) after calls (within (eval plan) after call c)) is
    ∙ ap (finish (eval plan) after calls) (sym (spend_step n m (λ k. within (eval plan) after call (eval plan job state k answers)) e))
    ∙ ap (λ (x : Move Job Want Outcome Frame Asking). from_move plan after on_got x calls state n answers) (sym s)

-- the newest call goes on with an outcome
pub came_back : {Job Want Got Outcome State Frame : Type 0} (evaluate : Evaluation Job Want Got Outcome State)
    (after : After Job Want Got Outcome State Frame) (calls popped : List (Pending Frame)) (call : Pending Frame) (outcome : Outcome) (state : State)
    (n : ℕ) (answers : List Got) (next : Plan Job Want Got Outcome State) → calls ≡ popped ++ call ∷ [] → after call.frame outcome state ≡ next →
    finish evaluate after popped (follow evaluate next n answers) ≡ finish evaluate after calls (follow evaluate (Ends outcome state) n answers)
came_back {Job} {Want} {Got} {Outcome} {State} {Frame} evaluate after calls popped call outcome state n answers next p e =
    ap (λ (q : Plan Job Want Got Outcome State). finish evaluate after popped (follow evaluate q n answers)) (sym e)
    ∙ sym (finish_push evaluate after popped call (Fin outcome state n answers))
    ∙ ap (λ (c : List (Pending Frame)). finish evaluate after c (Fin outcome state n answers)) (sym p)

-- an answer is taken
pub taken : {Job Want Got Outcome State Frame Asking : Type 0} (plan : Meaning Job Want Got Outcome State) (after : After Job Want Got Outcome State Frame)
    (on_got : OnGot Job Want Got Outcome State Asking) (asked : Option Asking) (move : Move Job Want Outcome Frame Asking) (calls : List (Pending Frame))
    (asking : Asking) (got : Got) (state now : State) (n : ℕ) (answers : List Got) → asked ≡ Some asking →
    on_got asking got state ≡ plan_of after on_got move now →
    from_move plan after on_got move calls now n answers ≡ with_answer plan after on_got asked calls state n got answers
taken {Job} {Want} {Got} {Outcome} {State} {Frame} {Asking} plan after on_got asked move calls asking got state now n answers s e =
    ap (λ (q : Plan Job Want Got Outcome State). finish (eval plan) after calls (follow (eval plan) q n answers)) (sym e)
    ∙ ap (λ (o : Option Asking). with_answer plan after on_got o calls state n got answers) (sym s)
