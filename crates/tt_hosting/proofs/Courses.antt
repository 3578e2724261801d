-- What each move of a stack with a host leads to.
use Rattle.std.proofs.Common.{◌≡◌, ℕ, suc, ◌+◌, arith, List, [], ◌∷◌, ◌++◌, Option, Some, refl, sym, ap, subst, ◌∙◌}
use Rattle.tt_evaluation.specs.Evaluation.{Meaning, eval}
use Rattle.tt_evaluation.specs.Frames.{After, OnGot, after_answer, finish, plan_of, with_answer}
use Rattle.tt_evaluation.specs.Plans.{Asks, Course, Ends, Fin, follow, spend}
use Rattle.tt_evaluation.specs.declared.language.Move.{Move}
use Rattle.tt_evaluation.specs.declared.language.Move.TheVariants.{Call, Goto}
use Rattle.tt_evaluation.specs.declared.stack.Pending.{Pending}
use Rattle.tt_evaluation.specs.declared.stack.Stack.{Stack}
use Rattle.tt_evaluation.specs.declared.stack.Standing.TheVariants as standing
use Rattle.tt_evaluation.proofs.Evaluations.{eval_is}
use Rattle.tt_evaluation.proofs.Stacks.{called, came_back, finish_stop, halts}
use Rattle.tt_hosting.specs.Hosting.{Coming, IsAnswered, Leading, from_reached, on_stack}
use Rattle.tt_hosting.specs.declared.hosted.Answered.{Answered}
use Rattle.tt_hosting.specs.declared.hosted.Answered.TheVariants as answered
use Rattle.tt_hosting.specs.declared.driving.Moved.{Moved}
use Rattle.tt_hosting.specs.declared.driving.Moved.TheVariants as moved
use Rattle.tt_hosting.specs.declared.driving.Reached.{Reached}
use Rattle.tt_hosting.specs.declared.driving.Reached.TheVariants as reached
use Rattle.tt_hosting.specs.inside.Moves.{MovesTo}

-- two evaluations come to the same
abbrev pub AreSame : {Want Got Outcome State : Type 0} → Coming Want Got Outcome State → Coming Want Got Outcome State → Type 0
AreSame {Want} {Got} one other = (answers : List Got) → one answers ≡ other answers

-- what leads somewhere leads on from what comes to the same
pub led_from : {Want Got Outcome State Host : Type 0} (leads : Leading Want Got Outcome State Host)
    (same : (one other : Coming Want Got Outcome State) (host : Host) → AreSame one other → leads one host other host)
    (further : (last middle first : Coming Want Got Outcome State) (host between before : Host)
    → leads last host middle between → leads middle between first before → leads last host first before)
    (last middle first : Coming Want Got Outcome State) (new old : Host)
    → leads last new middle old → AreSame middle first → leads last new first old
led_from leads same further last middle first new old led is = further last middle first new old old led (same middle first old is)

-- ---- moves ----

spend_is : {Want Got Outcome State : Type 0} (n m : ℕ) (go : ℕ → Course Want Got Outcome State) → n ≡ m + 1 → spend n go ≡ go m
spend_is n m go e = let next : n ≡ suc m = omega arith in rw next refl

-- a job is gone over into
pub gone_over : {Job Want Got Outcome State Frame Asking : Type 0} (plan : Meaning Job Want Got Outcome State)
    (after : After Job Want Got Outcome State Frame) (on_got : OnGot Job Want Got Outcome State Asking) (before : Stack State Frame Asking)
    (job : Job) (steps : ℕ) → before.steps ≡ steps + 1
    → AreSame (on_stack plan after (plan job) (record before { steps = steps })) (on_stack plan after (plan_of after on_got (Goto job)) before)
gone_over plan after on_got before job steps spent answers =
    ap (finish (eval plan) after before.calls.items)
    (sym (eval_is plan job before.state steps answers)
    ∙ sym (spend_is before.steps steps (λ k. eval plan job before.state k answers) spent))

-- a job is called
pub called_on : {Job Want Got Outcome State Frame Asking : Type 0} (plan : Meaning Job Want Got Outcome State)
    (after : After Job Want Got Outcome State Frame) (on_got : OnGot Job Want Got Outcome State Asking) (stack before : Stack State Frame Asking)
    (call : Pending Frame) (job : Job) → stack.calls.items ≡ before.calls.items ++ call ∷ [] → before.steps ≡ stack.steps + 1
    → stack.state ≡ before.state
    → AreSame (on_stack plan after (plan job) stack) (on_stack plan after (plan_of after on_got (Call call.serves job call.frame)) before)
called_on {Job} {Want} {Got} {Outcome} {State} plan after on_got stack before call job more spent is answers =
    ap (λ (s : State). finish (eval plan) after stack.calls.items (follow (eval plan) (plan job s) stack.steps answers)) is
    ∙ called plan after on_got (Call call.serves job call.frame) before.calls.items stack.calls.items call job before.state before.steps stack.steps answers
    (follow (eval plan) (plan job before.state) stack.steps answers) refl more spent (sym (eval_is plan job before.state stack.steps answers))

-- the newest call goes on
pub back_on : {Job Want Got Outcome State Frame Asking : Type 0} (plan : Meaning Job Want Got Outcome State)
    (after : After Job Want Got Outcome State Frame) (stack before : Stack State Frame Asking) (call : Pending Frame) (outcome : Outcome)
    → before.calls.items ≡ stack.calls.items ++ call ∷ [] → stack.state ≡ before.state → stack.steps ≡ before.steps
    → AreSame (on_stack plan after (after call.frame outcome) stack) (on_stack plan after (λ state. Ends outcome state) before)
back_on {Job} {Want} {Got} {Outcome} {State} plan after stack before call outcome more is left answers =
    ap (λ (s : State). finish (eval plan) after stack.calls.items (follow (eval plan) (after call.frame outcome s) stack.steps answers)) is
    ∙ ap (λ (n : ℕ). finish (eval plan) after stack.calls.items (follow (eval plan) (after call.frame outcome before.state) n answers)) left
    ∙ came_back (eval plan) after before.calls.items stack.calls.items call outcome before.state before.steps answers
    (after call.frame outcome before.state) more refl

-- ---- where a stack is left ----

-- all is evaluated
pub over_at : {Job Want Got Outcome State Frame Asking Request : Type 0} (plan : Meaning Job Want Got Outcome State)
    (after : After Job Want Got Outcome State Frame) (on_got : OnGot Job Want Got Outcome State Asking) (wanted : Request → Want)
    (stack before : Stack State Frame Asking) (outcome : Outcome)
    → before.calls.items ≡ [] → stack.state ≡ before.state → stack.steps ≡ before.steps
    → AreSame (from_reached plan after on_got wanted (reached.Over outcome) stack) (on_stack plan after (λ state. Ends outcome state) before)
over_at {Job} {Want} {Got} {Outcome} {State} {Frame} plan after on_got wanted stack before outcome none is left answers =
    ap (λ (s : State). Fin outcome s stack.steps answers) is
    ∙ ap (λ (n : ℕ). Fin outcome before.state n answers) left
    ∙ sym (ap (λ (c : List (Pending Frame)). finish (eval plan) after c (Fin outcome before.state before.steps answers)) none)

-- something must be asked
pub asks_at : {Job Want Got Outcome State Frame Asking Request : Type 0} (plan : Meaning Job Want Got Outcome State)
    (after : After Job Want Got Outcome State Frame) (on_got : OnGot Job Want Got Outcome State Asking) (wanted : Request → Want)
    (before : Stack State Frame Asking) (want : Want) (request : Request) (asking : Asking) → want ≡ wanted request
    → AreSame (from_reached plan after on_got wanted (reached.Asks request) (record before { asking = Some asking }))
    (on_stack plan after (λ state. Asks want state (on_got asking)) before)
asks_at {Job} {Want} {Got} {Outcome} {State} plan after on_got wanted before want request asking is answers =
    let stack : Stack _ _ _ = record before { asking = Some asking } in
    halts plan after on_got (standing.Asks (wanted request) asking) stack (wanted request) asking answers
    (on_stack plan after (λ state. Asks want state (on_got asking)) before answers) refl refl
    (ap (λ (w : Want). finish (eval plan) after before.calls.items (follow (eval plan) (Asks w before.state (on_got asking)) before.steps answers)) (sym is))

-- what goes on with an answer is what waited for it
pub given_to : {Job Want Got Outcome State Frame Asking : Type 0} (plan : Meaning Job Want Got Outcome State)
    (after : After Job Want Got Outcome State Frame) (on_got : OnGot Job Want Got Outcome State Asking) (stack before : Stack State Frame Asking)
    (asking : Asking) (got : Got) → before.asking ≡ Some asking → stack.calls ≡ before.calls → stack.state ≡ before.state → stack.steps ≡ before.steps
    → AreSame (on_stack plan after (on_got asking got) stack) (after_answer plan after on_got before got)
given_to {Job} {Want} {Got} {Outcome} {State} {Frame} {Asking} plan after on_got stack before asking got is calls state steps answers =
    let to : List (Pending Frame) → State → ℕ → Course Want Got Outcome State =
    λ c s n. finish (eval plan) after c (follow (eval plan) (on_got asking got s) n answers)
    in
    ap (λ c. to c.items stack.state stack.steps) calls
    ∙ ap (λ (s : State). to before.calls.items s stack.steps) state
    ∙ ap (λ (n : ℕ). to before.calls.items before.state n) steps
    ∙ ap (λ (o : Option Asking). with_answer plan after on_got o before.calls.items before.state before.steps got answers) (sym is)

-- ---- what the host says ----

-- the host answers what is wanted
pub answered_on : {Job Want Got Outcome State Frame Asking Host Request : Type 0} (plan : Meaning Job Want Got Outcome State)
    (after : After Job Want Got Outcome State Frame) (on_got : OnGot Job Want Got Outcome State Asking) (wanted : Request → Want)
    (leads : Leading Want Got Outcome State Host) (stack : Stack State Frame Asking) (says : Answered Got Request) (want : Want) (asking : Asking)
    (got : Got) (new old : Host) → says ≡ answered.Got got → IsAnswered wanted leads says want new old
    → leads (on_stack plan after (on_got asking got) stack) new (on_stack plan after (λ state. Asks want state (on_got asking)) stack) old
answered_on {Job} {Want} {Got} {Outcome} {State} {Frame} {Asking} {Host} {Request} plan after on_got wanted leads stack says want asking got new old is gives =
    subst (λ (a : Answered Got Request). IsAnswered wanted leads a want new old) is gives
    (on_stack plan after (λ state. Asks want state (on_got asking)) stack) _ (finish_stop (eval plan) after stack.calls.items want)

-- it must be asked outside, and the stack waits for the answer
pub outside_at : {Job Want Got Outcome State Frame Asking Host Request : Type 0} (plan : Meaning Job Want Got Outcome State)
    (after : After Job Want Got Outcome State Frame) (on_got : OnGot Job Want Got Outcome State Asking) (wanted : Request → Want)
    (leads : Leading Want Got Outcome State Host)
    (same : (one other : Coming Want Got Outcome State) (host : Host) → AreSame one other → leads one host other host)
    (stack before : Stack State Frame Asking) (says : Answered Got Request) (want : Want) (request : Request) (asking : Asking) (new old : Host)
    → stack ≡ record before { asking = Some asking } → says ≡ answered.Outside request → IsAnswered wanted leads says want new old
    → MovesTo {Job = Job} plan after on_got wanted leads (moved.Reaches (reached.Asks request)) stack new
    (on_stack plan after (λ state. Asks want state (on_got asking)) before) old
outside_at
    {Job} {Want} {Got} {Outcome} {State} {Frame} {Asking} {Host} {Request} plan after on_got wanted leads same stack before says want request asking
    new old put is gives =
    let so = subst (λ (a : Answered Got Request). IsAnswered wanted leads a want new old) is gives in
    let whole = on_stack plan after (λ state. Asks want state (on_got asking)) before in
    let reaches : Moved Job Want Outcome Frame Asking Request = moved.Reaches (reached.Asks request) in
    let waits : Stack State Frame Asking = record before { asking = Some asking } in
    subst (λ (s : Stack State Frame Asking). MovesTo plan after on_got wanted leads reaches s new whole old) (sym put)
    (subst (λ (h : Host). MovesTo plan after on_got wanted leads reaches waits h whole old) (sym so.1) (
      same (from_reached plan after on_got wanted (reached.Asks request) waits) whole old
          (asks_at plan after on_got wanted before want request asking so.0),
      refl,
    ))

-- ---- what came of a move ----

pub moves_so : {Job Want Got Outcome State Frame Asking Host Request : Type 0} (plan : Meaning Job Want Got Outcome State)
    (after : After Job Want Got Outcome State Frame) (on_got : OnGot Job Want Got Outcome State Asking) (wanted : Request → Want)
    (leads : Leading Want Got Outcome State Host) (what : Moved Job Want Outcome Frame Asking Request) (next : Move Job Want Outcome Frame Asking)
    (stack : Stack State Frame Asking) (new : Host) (before : Coming Want Got Outcome State) (old : Host)
    → what ≡ moved.Moves next → MovesTo plan after on_got wanted leads what stack new before old
    → leads (on_stack plan after (plan_of after on_got next) stack) new before old
moves_so {Job} {Want} {Got} {Outcome} {State} {Frame} {Asking} {Host} {Request} plan after on_got wanted leads what next stack new before old is led =
    subst (λ (m : Moved Job Want Outcome Frame Asking Request). MovesTo plan after on_got wanted leads m stack new before old) is led

pub reaches_so : {Job Want Got Outcome State Frame Asking Host Request : Type 0} (plan : Meaning Job Want Got Outcome State)
    (after : After Job Want Got Outcome State Frame) (on_got : OnGot Job Want Got Outcome State Asking) (wanted : Request → Want)
    (leads : Leading Want Got Outcome State Host) (what : Moved Job Want Outcome Frame Asking Request) (end : Reached Request Outcome)
    (stack : Stack State Frame Asking) (new : Host) (before : Coming Want Got Outcome State) (old : Host)
    → what ≡ moved.Reaches end → MovesTo plan after on_got wanted leads what stack new before old
    → leads (from_reached plan after on_got wanted end stack) new before old
reaches_so {Job} {Want} {Got} {Outcome} {State} {Frame} {Asking} {Host} {Request} plan after on_got wanted leads what end stack new before old is led =
    (subst (λ (m : Moved Job Want Outcome Frame Asking Request). MovesTo plan after on_got wanted leads m stack new before old) is led).0
