-- What is asked next is one request, if each answer is one.
use Rattle.std.proofs.Common.{◌≡◌, ◌+◌, ◌≤◌, ℕ, List, refl, ap, sym, subst, arith}
use Rattle.tt_calls.specs.declared.reply.Reply.{Reply}
use Rattle.tt_calls.specs.declared.request.Request.{Request}
use Rattle.tt_calls.specs.declared.start.Start.{Start}
use Rattle.tt_outcomes.specs.declared.ending.Ending.{Ending}
use Rattle.tt_frames.specs.Tcl.{plan}
use Rattle.tt_frames.specs.Units.{fresh}
use Rattle.tt_frames.specs.declared.job.Job.TheVariants as job
use Rattle.tt_frames.specs.declared.state.Counts.{Counts}
use Rattle.tt_evaluation.specs.Evaluation.{eval}
use Rattle.tt_evaluation.specs.Plans.{Course, Stop, Fin}
use Rattle.tt_outcomes.specs.declared.got.Got.{Got}
use Rattle.tt_outcomes.specs.declared.want.Want.{Want}
use Rattle.tt_outcomes.specs.declared.want.Want.TheVariants.{Ask}
use Rattle.tt_kept.specs.Answering.{Answers}
use Rattle.tt_kept.specs.Asking.{AsksNext, Coming, end_of, having, asks, after_reply, answered, ends}
use Rattle.tt_kept.specs.Beginning.{IsNext}
use Rattle.tt_kept.specs.declared.kept.Kept.{Kept}
use Rattle.tt_kept.specs.declared.setup.Setup.{Setup}
use Rattle.laws_language.specs.OneAnswer.{OneRequestLaw}
use Rattle.laws_language.proofs.Commands.{answers_law, begins_law}
use Rattle.laws_language.proofs.Steps.{asked_again, extends-later}

abbrev Comes : Type 0
Comes = Course Want Got Ending Counts

one-want : {course : Comes} {want other : Want} {serving during : List ℕ} → course ≡ Stop want serving → course ≡ Stop other during → (want ≡ other)
    × (serving ≡ during)
one-want is its = (cc, cc)

one-asked : {course : Comes} {one other : Request} {serving during : List ℕ} → course ≡ Stop (Ask one) serving → course ≡ Stop (Ask other) during →
    (one ≡ other) × (serving ≡ during)
one-asked is its = (cc, cc)

one-end : {course : Comes} {one other : Ending} {state after : Counts} {steps left : ℕ} {rest more : List Got} → course ≡ Fin one state steps rest →
    course ≡ Fin other after left more → one ≡ other
one-end is its = cc

stop-end : {course : Comes} {want : Want} {serving : List ℕ} {ending : Ending} {state : Counts} {steps : ℕ} {rest : List Got} →
    course ≡ Stop want serving → course ≡ Fin ending state steps rest → ⊥
stop-end is its = cc

-- a request is answered by a reply alone
no-answer : {course : Comes} {want : Want} {request : Request} {serving during : List ℕ} (old new : Kept) (got : Got)
    → course ≡ Stop (Ask request) serving → course ≡ Stop want during → Answers want old got new → ⊥
no-answer old new got is its gives = subst (λ (w : Want). Answers w old got new) (one-want its is).0 gives

asked-once : {coming : Coming} {kept : Kept} {replies : List Reply} {one other : Request} {serving during : List ℕ}
    → AsksNext coming kept replies one serving → AsksNext coming kept replies other during → (one ≡ other) × (serving ≡ during)
asked-once (asks is) (asks its) = one-asked is its
asked-once {kept = kept} (asks is) (answered {new = new} got its gives rest) = absurd (no-answer kept new got is its gives)
asked-once (asks is) (ends its) = absurd (stop-end is its)
asked-once (after_reply is goes rest) (after_reply its go more) = asked-once rest more
asked-once {kept = kept} (after_reply is goes rest) (answered {new = new} got its gives more) = absurd (no-answer kept new got is its gives)
asked-once {kept = kept} (answered {new = new} got is gives rest) (asks its) = absurd (no-answer kept new got its is gives)
asked-once {kept = kept} (answered {new = new} got is gives rest) (after_reply its go more) = absurd (no-answer kept new got its is gives)
asked-once {coming} {kept} {replies} {one} {other} {serving} {during}
    (answered {new = new} {want = want} got is gives rest) (answered {new = next} {want = wants} gets its give more) =
    let wanted = (one-want is its).0 in
    let same = answers_law want kept got gets new next gives (subst (λ (w : Want). Answers w kept gets next) (sym wanted) give) in
    asked-once rest
    (subst (λ (g : Got). AsksNext (having g coming) new replies other during) (sym same.0)
    (subst (λ (k : Kept). AsksNext (having gets coming) k replies other during) (sym same.1) more))
asked-once (answered got is gives rest) (ends its) = absurd (stop-end is its)
asked-once (ends is) (asks its) = absurd (stop-end its is)
asked-once (ends is) (answered got its gives rest) = absurd (stop-end its is)
asked-once (ends is) (ends its) = (ended (one-end is its), refl)
  where
    ended : {one other : Ending} → one ≡ other → end_of one ≡ end_of other
    ended same = ap end_of same

-- for more steps
more-asked : {kept : Kept} (setup : Setup) (me : ℕ) (start : Start) (replies : List Reply) (request : Request) (serving : List ℕ) (n m : ℕ) → n ≤ m
    → AsksNext (eval plan (job.Start start) (fresh me setup.limit) n) kept replies request serving
    → AsksNext (eval plan (job.Start start) (fresh me setup.limit) m) kept replies request serving
more-asked setup me start replies request serving n m le asked = asked_again (extends-later (job.Start start) (fresh me setup.limit) n m le) asked

pub one_request : OneRequestLaw
one_request setup me start replies one other serving during first second =
    let steps = first.steps + second.steps in
    let same = begins_law setup me first.kept second.kept first.begins second.begins in
    asked-once
    (more-asked setup me start replies one serving first.steps steps (omega arith) first.asks)
    (subst (λ (k : Kept). AsksNext (eval plan (job.Start start) (fresh me setup.limit) steps) k replies other during) (sym same)
    (more-asked setup me start replies other during second.steps steps (omega arith) second.asks))

-- two requests that a thread asks next are one
pub requests_agree : {setup : Setup} {me : ℕ} {start : Start} {replies : List Reply} {one other : Request} {serving during : List ℕ}
    → IsNext setup me start replies one serving → IsNext setup me start replies other during → one ≡ other
requests_agree {setup} {me} {start} {replies} {one} {other} {serving} {during} first second =
    (one_request setup me start replies one other serving during first second).0
