-- After its end a thread asks nothing.
use Rattle.std.proofs.Common.{◌≡◌, ◌+◌, ◌≤◌, ℕ, true, false, Bool, IsTrue, List, [], ◌∷◌, ◌++◌, arith, refl, subst, sym}
use Rattle.tt_calls.specs.declared.reply.Reply.{Reply}
use Rattle.tt_calls.specs.declared.request.Request.{Request}
use Rattle.tt_calls.specs.declared.start.Start.{Start}
use Rattle.tt_outcomes.specs.declared.ending.Ending.{Ending}
use Rattle.tt_frames.specs.Tcl.{plan}
use Rattle.tt_frames.specs.Units.{fresh}
use Rattle.tt_frames.specs.declared.job.Job.TheVariants as job
use Rattle.tt_frames.specs.declared.state.Counts.{Counts}
use Rattle.tt_kept.specs.Answering.{Answers}
use Rattle.tt_kept.specs.Asking.{AsksNext, Coming, asks, after_reply, answered, ends, goes_on, having}
use Rattle.tt_kept.specs.Beginning.{IsNext}
use Rattle.tt_kept.specs.declared.kept.Kept.{Kept}
use Rattle.tt_kept.specs.declared.setup.Setup.{Setup}
use Rattle.laws_language.proofs.Commands.{answers_law, begins_law}
use Rattle.laws_language.proofs.Steps.{asked_again, extends-later}
use Rattle.tt_evaluation.specs.Evaluation.{eval}
use Rattle.tt_evaluation.specs.Plans.{Course, Stop, Fin}
use Rattle.tt_outcomes.specs.declared.got.Got.{Got}
use Rattle.tt_outcomes.specs.declared.got.Got.TheVariants as gots
use Rattle.tt_outcomes.specs.declared.want.Want.{Want}
use Rattle.tt_outcomes.specs.declared.want.Want.TheVariants.{Ask}
pub use Rattle.laws_language.proofs.Asked.{one_request}

abbrev Comes : Type 0
Comes = Course Want Got Ending Counts

one-want : {course : Comes} {want other : Want} {serving during : List ℕ} → course ≡ Stop want serving → course ≡ Stop other during → want ≡ other
one-want is its = cc

one-asked : {course : Comes} {one other : Request} {serving during : List ℕ} → course ≡ Stop (Ask one) serving → course ≡ Stop (Ask other) during → one ≡ other
one-asked is its = cc

stop-end : {course : Comes} {want : Want} {serving : List ℕ} {ending : Ending} {state : Counts} {steps : ℕ} {rest : List Got}
    → course ≡ Stop want serving → course ≡ Fin ending state steps rest → ⊥
stop-end is its = cc

last-answer : {course : Comes} {want : Want} {request : Request} {serving during : List ℕ} (old new : Kept) (got : Got)
    → course ≡ Stop (Ask request) serving → course ≡ Stop want during → Answers want old got new → ⊥
last-answer old new got is its gives = subst (λ (w : Want). Answers w old got new) (sym (one-want is its)) gives

false-true : (b : Bool) → b ≡ false → IsTrue b → ⊥
false-true true is goes = cc
false-true false is goes = cc

goes-not : (one other : Request) → one ≡ other → goes_on one ≡ false → IsTrue (goes_on other) → ⊥
goes-not one other same last goes = let is = subst (λ (r : Request). goes_on r ≡ false) same last in false-true (goes_on other) is goes

some-left : (replies : List Reply) (reply : Reply) → [] ≡ replies ++ reply ∷ [] → ⊥
some-left [] reply is = cc
some-left (one ∷ replies) reply is = cc

tail-is : {one first : Reply} {rest others : List Reply} → one ∷ rest ≡ first ∷ others → rest ≡ others
tail-is is = cc

nothing-asked : {coming : Coming} {kept : Kept} {replies all : List Reply} {request other : Request} {serving during : List ℕ} (reply : Reply)
    → AsksNext coming kept replies request serving → goes_on request ≡ false
    → all ≡ replies ++ reply ∷ [] → AsksNext coming kept all other during → ⊥
nothing-asked {replies = replies} reply first last is (asks its) = some-left replies reply is
nothing-asked {replies = replies} reply first last is (ends its) = some-left replies reply is
nothing-asked {request = request} reply (asks is) last all (after_reply {asked = asked} its goes rest) = goes-not request asked (one-asked is its) last goes
nothing-asked reply (asks is) last all (answered got its gives rest) = absurd (last-answer _ _ _ is its gives)
nothing-asked {coming = coming} {kept = kept} {other = other} {during = during} reply
    (after_reply {reply = told} is goes rest) last all (after_reply {reply = also} {replies = others} its go more) =
    let same : also ≡ told = cc all in
    nothing-asked reply rest last (tail-is all)
    (subst (λ (r : Reply). AsksNext (having (gots.Reply r) coming) kept others other during) same more)
nothing-asked reply (after_reply is goes rest) last all (answered got its gives more) = absurd (last-answer _ _ _ is its gives)
nothing-asked reply (answered got is gives rest) last all (after_reply its go more) = absurd (last-answer _ _ _ its is gives)
nothing-asked {coming = coming} {kept = kept} {all = list} {other = other} {during = during} reply
    (answered {new = new} {want = want} got is gives rest) last all (answered {new = next} {want = wants} gets its give more) =
    let wanted = one-want is its in
    let same = answers_law want kept got gets new next gives (subst (λ (w : Want). Answers w kept gets next) (sym wanted) give) in
    nothing-asked reply rest last all
    (subst (λ (g : Got). AsksNext (having g coming) new list other during) (sym same.0)
    (subst (λ (k : Kept). AsksNext (having gets coming) k list other during) (sym same.1) more))
nothing-asked reply (ends is) last all (after_reply its go more) = absurd (stop-end its is)
nothing-asked reply (ends is) last all (answered got its gives rest) = absurd (stop-end its is)

more-asked : {kept : Kept} (setup : Setup) (me : ℕ) (start : Start) (replies : List Reply) (request : Request) (serving : List ℕ) (n m : ℕ) → n ≤ m
    → AsksNext (eval plan (job.Start start) (fresh me setup.limit) n) kept replies request serving
    → AsksNext (eval plan (job.Start start) (fresh me setup.limit) m) kept replies request serving
more-asked setup me start replies request serving n m le asked = asked_again (extends-later (job.Start start) (fresh me setup.limit) n m le) asked

pub nothing_after : (setup : Setup) (me : ℕ) (start : Start) (replies : List Reply) (request other : Request) (serving during : List ℕ) (reply : Reply)
    → IsNext setup me start replies request serving → goes_on request ≡ false
    → IsNext setup me start (replies ++ reply ∷ []) other during → ⊥
nothing_after setup me start replies request other serving during reply first last second =
    let steps = first.steps + second.steps in
    let same = begins_law setup me first.kept second.kept first.begins second.begins in
    nothing-asked reply
    (more-asked setup me start replies request serving first.steps steps (omega arith) first.asks) last refl
    (subst (λ (k : Kept). AsksNext (eval plan (job.Start start) (fresh me setup.limit) steps) k (replies ++ reply ∷ []) other during) (sym same)
    (more-asked setup me start (replies ++ reply ∷ []) other during second.steps steps (omega arith) second.asks))
