-- What a thread serves changes by replies alone.
use Rattle.std.proofs.Common.{◌≡◌, ◌∙◌, ℕ, List, [], ◌∷◌, ◌++◌, None, Some, ap, refl, sym, subst, append-nil}
use Rattle.laws_language.proofs.Asked.{one_request}
use Rattle.laws_serving.proofs.Courses.{Served, eval_served}
use Rattle.laws_serving.proofs.Events.{tcl_keeps}
use Rattle.laws_serving.specs.Duties as duty
use Rattle.laws_serving.specs.Serving.{DeliverLaw, FirstLaw, ServingLaw, duties, handed, served_after}
use Rattle.tt_calls.specs.declared.outcome.Code.{Code}
use Rattle.tt_calls.specs.declared.outcome.Code.TheVariants as code
use Rattle.tt_calls.specs.declared.outcome.Outcome.{Outcome}
use Rattle.tt_calls.specs.declared.reply.Reply.{Reply}
use Rattle.tt_calls.specs.declared.request.Request.{Request}
use Rattle.tt_calls.specs.declared.start.Start.{Start}
use Rattle.tt_kept.specs.declared.setup.Setup.{Setup}
use Rattle.tt_calls.specs.declared.request.Request.TheVariants as request
use Rattle.tt_evaluation.specs.Evaluation.{eval}
use Rattle.tt_evaluation.specs.Plans.{Fin, Stop}
use Rattle.tt_frames.specs.Tcl.{plan}
use Rattle.tt_frames.specs.Units.{fresh}
use Rattle.tt_frames.specs.declared.job.Job.TheVariants as job
use Rattle.tt_frames.specs.declared.state.Counts.{Counts}
use Rattle.tt_kept.specs.Answering.{Answers}
use Rattle.tt_kept.specs.Asking.{AsksNext, Coming, after_reply, answered, asks, end_by, ends, having}
use Rattle.tt_kept.specs.declared.kept.Kept.{Kept}
use Rattle.tt_outcomes.specs.Endings.{code_of}
use Rattle.tt_outcomes.specs.declared.ending.Ending.{Ending}
use Rattle.tt_outcomes.specs.declared.got.Got.{Got}
use Rattle.tt_outcomes.specs.declared.got.Got.TheVariants as got
use Rattle.tt_outcomes.specs.declared.want.Want.{Want}
use Rattle.tt_outcomes.specs.declared.want.Want.TheVariants as want

abbrev after : List ℕ → Want → Got → List ℕ
after serving wanted it = duty.served_after duties serving wanted it

-- what a course serves from where it stands
record Follows (coming : Coming) (before : List ℕ) : Type 0 where
  at : (wanted : Want) (serving : List ℕ) → coming [] ≡ Stop wanted serving → serving ≡ before
  fin : (ended : Ending) (state : Counts) (k : ℕ) (rest : List Got) → coming [] ≡ Fin ended state k rest → before ≡ []
  stop : (gots : List Got) (it : Got) (wanted next : Want) (serving now : List ℕ)
      → coming gots ≡ Stop wanted serving → coming (gots ++ it ∷ []) ≡ Stop next now → now ≡ after serving wanted it
  end : (gots : List Got) (it : Got) (wanted : Want) (serving : List ℕ) (ended : Ending) (state : Counts) (k : ℕ) (rest : List Got)
      → coming gots ≡ Stop wanted serving → coming (gots ++ it ∷ []) ≡ Fin ended state k rest → after serving wanted it ≡ []
  hands : (gots : List Got) (wanted : Want) (serving : List ℕ) (n : ℕ) → coming gots ≡ Stop wanted serving → handed wanted ≡ Some n
      → (rest : List ℕ) × (serving ≡ n ∷ rest)

at_start : (coming : Coming) → Served duties None None coming → Follows coming []
at_start coming served = record {
  at = λ wanted serving is. served.first wanted serving is;
  fin = λ ended state k rest is. refl;
  stop = λ gots it wanted next serving now is then.
      sym (append-nil now) ∙ served.stop gots it wanted next serving now is then ∙ ap (λ all. after all wanted it) (append-nil serving);
  end = λ gots it wanted serving ended state k rest is then.
      ap (λ all. after all wanted it) (sym (append-nil serving)) ∙ (served.end gots it wanted serving ended state k rest is then).1;
  hands = λ gots wanted serving n is some.
      let found = served.hands gots wanted serving n is some in (found.0, sym (append-nil serving) ∙ found.1);
}

on_got : (coming : Coming) (before during : List ℕ) (wanted : Want) (it : Got) → coming [] ≡ Stop wanted during → Follows coming before →
    Follows (having it coming) (after during wanted it)
on_got coming before during wanted it is follows = record {
  at = λ next serving then. follows.stop [] it wanted next during serving is then;
  fin = λ ended state k rest then. follows.end [] it wanted during ended state k rest is then;
  stop = λ gots other. follows.stop (it ∷ gots) other;
  end = λ gots other. follows.end (it ∷ gots) other;
  hands = λ gots. follows.hands (it ∷ gots);
}

-- what is kept answers leaves what is served
unchanged : (wanted : Want) (old new : Kept) (it : Got) (serving : List ℕ) → Answers wanted old it new → after serving wanted it ≡ serving
unchanged (want.Ask asked) old new it serving answers = absurd answers
unchanged wanted old new it serving answers = refl

now_serves : (coming : Coming) (kept : Kept) (all : List Reply) (asked : Request) (serving before : List ℕ) → all ≡ [] → AsksNext coming kept all asked serving
    → Follows coming before → serving ≡ before
now_serves coming kept _ asked serving before none (asks is) follows = follows.at (want.Ask asked) serving is
now_serves coming kept _ asked serving before none (after_reply is goes rest) follows = absurd (cc none)
now_serves coming kept _ asked serving before none (answered {new = new} {want = wanted} it {during = during} is gives rest) follows =
    now_serves (having it coming) new _ asked serving (after during wanted it) none rest (on_got coming before during wanted it is follows)
    ∙ unchanged wanted kept new it during gives ∙ follows.at wanted during is
now_serves coming kept _ _ _ before none (ends {ending = ending} {state = state} {steps = steps} is) follows = sym (follows.fin ending state steps [] is)

-- ---- one reply more ----

record IsCut (coming : Coming) (kept : Kept) (replies : List Reply) (told : Reply) (now : List ℕ) : Type 0 where
  asked : Request
  during : List ℕ
  before : AsksNext coming kept replies asked during
  is : now ≡ served_after during asked told

cut : (coming : Coming) (kept : Kept) (all replies : List Reply) (told : Reply) (next : Request) (now before : List ℕ) → all ≡ replies ++ told ∷ []
    → AsksNext coming kept all next now → Follows coming before → IsCut coming kept replies told now
cut coming kept _ [] told next now before same (asks is) follows = absurd (cc same)
cut coming kept _ (one ∷ replies) told next now before same (asks is) follows = absurd (cc same)
cut coming kept _ [] told _ _ before same (ends is) follows = absurd (cc same)
cut coming kept _ (one ∷ replies) told _ _ before same (ends is) follows = absurd (cc same)
cut coming kept _ replies told next now before same (answered {new = new} {want = wanted} it {during = during} is gives rest) follows =
    let later = cut (having it coming) new _ replies told next now (after during wanted it) same rest (on_got coming before during wanted it is follows) in
    record { asked = later.asked; during = later.during; before = answered it is gives later.before; is = later.is }
cut coming kept _ [] told next now before same (after_reply {asked = asked} {during = during} {reply = answer} {replies = others} is goes rest) follows =
    let first : answer ≡ told = cc same in
    let none : others ≡ [] = cc same in
    let found = now_serves (having (got.Reply answer) coming) kept others next now (after during (want.Ask asked) (got.Reply answer)) none rest
    (on_got coming before during (want.Ask asked) (got.Reply answer) is follows) in
    record { asked = asked; during = during; before = asks is; is = found ∙ ap (λ it. served_after during asked it) first }
cut coming kept _ (one ∷ replies) told next now before same
    (after_reply {asked = asked} {during = during} {reply = answer} {replies = others} is goes rest) follows =
    let first : answer ≡ one = cc same in
    let rest_same : others ≡ replies ++ told ∷ [] = cc same in
    let later = cut (having (got.Reply answer) coming) kept others replies told next now (after during (want.Ask asked) (got.Reply answer)) rest_same rest
    (on_got coming before during (want.Ask asked) (got.Reply answer) is follows) in
    record {
      asked = later.asked;
      during = later.during;
      before = subst (λ it. AsksNext coming kept (it ∷ replies) later.asked later.during) first (after_reply is goes later.before);
      is = later.is;
    }

-- ---- what is handed over ----

ends_not : (ended : Code) (n : ℕ) (outcome : Outcome) → end_by ended ≡ request.Deliver n outcome → ⊥
ends_not code.Fine n outcome is = cc is
ends_not code.Failed n outcome is = cc is
ends_not code.Returned n outcome is = cc is
ends_not code.Broke n outcome is = cc is
ends_not code.Continued n outcome is = cc is

hands_over : (coming : Coming) (kept : Kept) (replies : List Reply) (asked : Request) (n : ℕ) (outcome : Outcome) (serving before : List ℕ)
    → asked ≡ request.Deliver n outcome → AsksNext coming kept replies asked serving → Follows coming before → (rest : List ℕ) × (serving ≡ n ∷ rest)
hands_over coming kept _ asked n outcome serving before same (asks is) follows =
    follows.hands [] (want.Ask asked) serving n is (ap (λ one. handed (want.Ask one)) same)
hands_over coming kept _ asked n outcome serving before same (after_reply {asked = first} {during = during} {reply = answer} is goes rest) follows =
    hands_over (having (got.Reply answer) coming) kept _ asked n outcome serving _ same rest
    (on_got coming before during (want.Ask first) (got.Reply answer) is follows)
hands_over coming kept _ asked n outcome serving before same (answered {new = new} {want = wanted} it {during = during} is gives rest) follows =
    hands_over (having it coming) new _ asked n outcome serving _ same rest (on_got coming before during wanted it is follows)
hands_over coming kept _ _ n outcome _ before same (ends {ending = ending} is) follows = absurd (ends_not (code_of ending) n outcome same)

-- ---- the laws ----

started : (setup : Setup) (me : ℕ) (start : Start) (steps : ℕ) → Follows (eval plan (job.Start start) (fresh me setup.limit) steps) []
started setup me start steps = at_start _ (eval_served duties plan tcl_keeps (job.Start start) (fresh me setup.limit) steps)

pub first_law : FirstLaw
first_law setup me start asked serving next = now_serves _ next.kept [] asked serving [] refl next.asks (started setup me start next.steps)

pub serving_law : ServingLaw
serving_law setup me start replies told asked next before now first second =
    let found = cut _ second.kept (replies ++ told ∷ []) replies told next now [] refl second.asks (started setup me start second.steps) in
    let same = one_request setup me start replies asked found.asked before found.during first
    (record { kept = second.kept; steps = second.steps; begins = second.begins; asks = found.before }) in
    found.is ∙ ap (λ one. served_after one found.asked told) (sym same.1) ∙ ap (λ one. served_after before one told) (sym same.0)

pub deliver_law : DeliverLaw
deliver_law setup me start replies n outcome serving next =
    hands_over _ next.kept replies (request.Deliver n outcome) n outcome serving [] refl next.asks (started setup me start next.steps)
