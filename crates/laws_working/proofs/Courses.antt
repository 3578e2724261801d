-- In turn: what a course asks from a hand on, if it ends with the same one, and so of plans that keep to it.
use Rattle.std.proofs.Common.{◌≡◌, ◌∙◌, ℕ, zero, suc, true, List, [], ◌∷◌, Option, Some, None, ap, refl, sym, subst}
use Rattle.std.specs.Bool.{⊤}
use Rattle.laws_working.proofs.Plain as plainly
use Rattle.laws_working.proofs.Plain.{Plain, is_part, is_plain, wants_plainly}
use Rattle.laws_working.specs.Turns.{IsInTurn, in_hand_after}
use Rattle.tt_calls.specs.declared.pool_call.PoolCall.TheVariants as pool
use Rattle.tt_calls.specs.declared.reply.Reply.{Reply}
use Rattle.tt_calls.specs.declared.request.Request.TheVariants as ask
use Rattle.tt_calls.specs.declared.request.Request.{Request}
use Rattle.tt_evaluation.specs.Evaluation.{eval, eval_within}
use Rattle.tt_evaluation.specs.Plans.{Asks, Calls, Evaluation, Fin, Goes, Spent, Stop, course_with_post, follow, then_do}
use Rattle.tt_frames.specs.Tcl.{plan}
use Rattle.tt_frames.specs.Vocabulary.{OnEnding, TclPlan}
use Rattle.tt_frames.specs.declared.job.Job.TheVariants as job
use Rattle.tt_frames.specs.declared.job.Job.{Job}
use Rattle.tt_frames.specs.declared.job.Work.TheVariants.{Takes}
use Rattle.tt_frames.specs.declared.state.Counts.{Counts}
use Rattle.tt_kept.specs.Asking.{Coming, having}
use Rattle.tt_outcomes.specs.declared.ending.Ending.{Ending}
use Rattle.tt_outcomes.specs.declared.got.Got.TheVariants as got
use Rattle.tt_outcomes.specs.declared.got.Got.{Got}
use Rattle.tt_outcomes.specs.declared.want.Want.TheVariants as want
use Rattle.tt_outcomes.specs.declared.want.Want.{Want}
use Rattle.tt_shared.specs.Ends.{pool_of_start}

abbrev pub Hand : Type 0
Hand = Option ℕ

-- what is in hand after an answer; what is no reply to a job that was handed in ends it too
abbrev pub hand_after : Hand → Want → Got → Hand
hand_after hand (want.Ask request) (got.Reply answered) = in_hand_after hand request answered
hand_after hand (want.Ask (ask.Pool (pool.JobDone text n outcome))) other = None
hand_after hand wanted other = hand

-- what may be wanted, by a worker of a pool or by another thread
abbrev pub MayWant : (own : Option (List ℕ)) → Hand → Want → Type 0
MayWant own hand (want.Ask request) = IsInTurn own hand request
MayWant own hand wanted = ⊤

-- a plain want may be wanted, and changes nothing
pub plain_wanted : (own : Option (List ℕ)) (hand : Hand) (wanted : Want) → wants_plainly wanted ≡ true → MayWant own hand wanted
plain_wanted own hand (want.Ask (ask.Pool (pool.JobTake text))) is = absurd (cc is)
plain_wanted own hand (want.Ask (ask.Pool (pool.JobDone text n outcome))) is = absurd (cc is)
plain_wanted own hand (want.Ask (ask.Pool call)) is = tt
plain_wanted own hand (want.Ask request) is = tt
plain_wanted own hand wanted is = tt

pub plain_reply : (hand : Hand) (request : Request) (answered : Reply) → is_plain request ≡ true → in_hand_after hand request answered ≡ hand
plain_reply hand (ask.Pool (pool.JobTake text)) answered is = absurd (cc is)
plain_reply hand (ask.Pool (pool.JobDone text n outcome)) answered is = absurd (cc is)
plain_reply hand (ask.Pool call) answered is = refl
plain_reply hand request answered is = refl

pub plain_hand : (hand : Hand) (wanted : Want) (it : Got) → wants_plainly wanted ≡ true → hand_after hand wanted it ≡ hand
plain_hand hand (want.Ask request) (got.Reply answered) is = plain_reply hand request answered is
plain_hand hand (want.Ask (ask.Pool (pool.JobDone text n outcome))) it is = absurd (cc is)
plain_hand hand (want.Ask (ask.Pool call)) it is = refl
plain_hand hand (want.Ask request) it is = refl
plain_hand hand wanted it is = refl

-- ---- courses ----

-- a course asks in turn, and ends with the last hand; where it needs an answer it goes on so with each
pub data InTurn (own : Option (List ℕ)) (last : Hand) : Hand → Coming → Type 0 where
  spent : {hand : Hand} {coming : Coming} → ((gots : List Got) → coming gots ≡ Spent) → InTurn own last hand coming
  fin : {hand : Hand} {coming : Coming} {ended : Ending} {state : Counts} {steps : ℕ} → hand ≡ last
      → ((gots : List Got) → coming gots ≡ Fin ended state steps gots) → InTurn own last hand coming
  stop : {hand : Hand} {coming : Coming} {wanted : Want} {serving : List ℕ} → MayWant own hand wanted → coming [] ≡ Stop wanted serving
      → ((it : Got) → InTurn own last (hand_after hand wanted it) (having it coming)) → InTurn own last hand coming

module _ (own : Option (List ℕ)) where
  -- of courses that come to the same
  alike : (last hand : Hand) (one other : Coming) → ((gots : List Got) → one gots ≡ other gots) → InTurn own last hand other → InTurn own last hand one
  alike last hand one other same (spent none) = spent (λ gots. same gots ∙ none gots)
  alike last hand one other same (fin is ended) = fin is (λ gots. same gots ∙ ended gots)
  alike last hand one other same (stop may is on) =
      stop may (same [] ∙ is) (λ it. alike last _ (having it one) (having it other) (λ gots. same (it ∷ gots)) (on it))

  -- a call, and what comes after it
  called : (last before hand : Hand) (serves : Option ℕ) (inner : Coming) (rest : Ending → Counts → ℕ → Coming)
      → InTurn own before hand inner → ((ended : Ending) (state : Counts) (steps : ℕ) → InTurn own last before (rest ended state steps))
      → InTurn own last hand (λ gots. then_do (course_with_post serves (inner gots)) rest)
  called last before hand serves inner rest (spent none) after =
      spent (λ gots. ap (λ course. then_do (course_with_post serves course) rest) (none gots))
  called last before hand serves inner rest (fin {ended = ended} {state = state} {steps = steps} is comes) after =
      alike last hand _ (rest ended state steps) (λ gots. ap (λ course. then_do (course_with_post serves course) rest) (comes gots))
      (subst (λ (one : Hand). InTurn own last one (rest ended state steps)) (sym is) (after ended state steps))
  called last before hand serves inner rest (stop may is on) after =
      stop may (ap (λ course. then_do (course_with_post serves course) rest) is)
      (λ it. called last before _ serves (having it inner) rest (on it) after)

  -- ---- plans ----

  -- a job may begin with this in hand
  abbrev pub MayBegin : Job → Hand → Type 0
  MayBegin (job.Start start) hand = (own ≡ pool_of_start start) × (hand ≡ None)
  MayBegin (job.Work (Takes worker)) hand = (own ≡ Some worker.pool) × (hand ≡ None)
  MayBegin other hand = ⊤

  part_begins : (one : Job) (hand : Hand) → is_part one ≡ true → MayBegin one hand
  part_begins (job.Start start) hand is = absurd (cc is)
  part_begins (job.Work next) hand is = absurd (cc is)
  part_begins other hand is = tt

  -- a plan asks in turn, and ends with the last hand
  pub data Works (last : Hand) : Hand → TclPlan → Type 0 where
    plain : {hand : Hand} {one : TclPlan} → hand ≡ last → Plain one → Works last hand one
    asks : {hand : Hand} {wanted : Want} {state : Counts} {on : Got → Counts → TclPlan} → MayWant own hand wanted
        → ((it : Got) (after : Counts) → Works last (hand_after hand wanted it) (on it after)) → Works last hand (Asks wanted state on)
    calls : {hand : Hand} {serves : Option ℕ} {one : Job} {state : Counts} {on : OnEnding} → is_part one ≡ true
        → ((ended : Ending) (after : Counts) → Works last hand (on ended after)) → Works last hand (Calls serves one state on)
    goes : {hand : Hand} {next : Job} {state : Counts} → hand ≡ last → MayBegin next hand → Works last hand (Goes next state)

  -- what is plain leaves the hand
  pub asking : (last hand : Hand) (wanted : Want) (state : Counts) (on : Got → Counts → TclPlan) → wants_plainly wanted ≡ true
      → ((it : Got) (after : Counts) → Works last hand (on it after)) → Works last hand (Asks wanted state on)
  asking last hand wanted state on is works =
      asks (plain_wanted own hand wanted is)
      (λ it after. subst (λ (now : Hand). Works last now (on it after)) (sym (plain_hand hand wanted it is)) (works it after))

  -- a language whose jobs do
  abbrev pub Keeps : Type 0
  Keeps = (one : Job) (state : Counts) (hand : Hand) → MayBegin one hand → Works hand hand (plan one state)

  module _ (evaluate : Evaluation Job Want Got Ending Counts)
      (jobs : (one : Job) (state : Counts) (n : ℕ) (hand : Hand) → MayBegin one hand → InTurn own hand hand (λ gots. evaluate one state n gots)) where
    abbrev Followed : Hand → Hand → TclPlan → ℕ → Type 0
    Followed last hand one n = InTurn own last hand (λ gots. follow evaluate one n gots)

    going : (hand : Hand) (next : Job) (state : Counts) (n : ℕ) → MayBegin next hand → Followed hand hand (Goes next state) n
    going hand next state zero may = spent (λ gots. refl)
    going hand next state (suc n) may = jobs next state n hand may

    calling : (last hand : Hand) (serves : Option ℕ) (one : Job) (state : Counts) (on : OnEnding) (n : ℕ) → is_part one ≡ true
        → ((ended : Ending) (after : Counts) (k : ℕ) → Followed last hand (on ended after) k) → Followed last hand (Calls serves one state on) n
    calling last hand serves one state on zero is then = spent (λ gots. refl)
    calling last hand serves one state on (suc n) is then =
        called last hand hand serves (λ gots. evaluate one state n gots) (λ ended after k rest. follow evaluate (on ended after) k rest)
        (jobs one state n hand (part_begins one hand is)) then

    plain_follows : (hand : Hand) (one : TclPlan) → Plain one → (n : ℕ) → Followed hand hand one n
    plain_follows hand _ plainly.ends n = fin refl (λ gots. refl)
    plain_follows hand _ (plainly.asks {wanted = wanted} {state = state} {on = on} is after) n =
        stop (plain_wanted own hand wanted is) refl
        (λ it. subst (λ (now : Hand). InTurn own hand now (λ gots. follow evaluate (on it state) n gots)) (sym (plain_hand hand wanted it is))
        (plain_follows hand (on it state) (after it state) n))
    plain_follows hand _ (plainly.calls {serves = serves} {called = one} {state = state} {on = on} is after) n =
        calling hand hand serves one state on n is (λ ended st k. plain_follows hand (on ended st) (after ended st) k)
    plain_follows hand _ (plainly.goes {next = next} {state = state} is) n = going hand next state n (part_begins next hand is)

    follows : (last hand : Hand) (one : TclPlan) → Works last hand one → (n : ℕ) → Followed last hand one n
    follows last hand one (plain is plan_is) n =
        subst (λ (end : Hand). InTurn own end hand (λ gots. follow evaluate one n gots)) is (plain_follows hand one plan_is n)
    follows last hand _ (asks {wanted = wanted} {state = state} {on = on} may after) n =
        stop may refl (λ it. follows last _ (on it state) (after it state) n)
    follows last hand _ (calls {serves = serves} {one = one} {state = state} {on = on} is after) n =
        calling last hand serves one state on n is (λ ended st k. follows last hand (on ended st) (after ended st) k)
    follows last hand _ (goes {next = next} {state = state} is may) n =
        subst (λ (end : Hand). InTurn own end hand (λ gots. follow evaluate (Goes next state) n gots)) is (going hand next state n may)

  within : Keeps → (depth : ℕ) (one : Job) (state : Counts) (n : ℕ) (hand : Hand) → MayBegin one hand
      → InTurn own hand hand (λ gots. eval_within plan depth one state n gots)
  within keeps zero one state n hand may = spent (λ gots. refl)
  within keeps (suc depth) one state n hand may =
      follows (eval_within plan depth) (within keeps depth) hand hand (plan one state) (keeps one state hand may) n

  pub eval_in_turn : Keeps → (one : Job) (state : Counts) (n : ℕ) (hand : Hand) → MayBegin one hand → InTurn own hand hand (eval plan one state n)
  unfolding eval
  eval_in_turn keeps one state n hand may = within keeps (suc n) one state n hand may
