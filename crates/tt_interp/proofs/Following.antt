-- What is asked where an evaluation goes on.
use Rattle.std.proofs.Common.{◌≡◌, ℕ, IsTrue, List, [], Some, sym, ap, subst, refl, ◌∙◌}
use Rattle.tt_calls.specs.declared.reply.Reply.{Reply}
use Rattle.tt_calls.specs.declared.request.Request.{Request}
use Rattle.tt_calls.specs.declared.start.Start.{Start}
use Rattle.tt_outcomes.specs.declared.ending.Ending.{Ending}
use Rattle.tt_outcomes.specs.declared.got.Got.{Got}
use Rattle.tt_outcomes.specs.declared.got.Got.TheVariants as gots
use Rattle.tt_outcomes.specs.declared.want.Want.{Want}
use Rattle.tt_frames.specs.Tcl.{plan}
use Rattle.tt_frames.specs.Units.{fresh}
use Rattle.tt_frames.specs.declared.job.Asking.{Asking}
use Rattle.tt_frames.specs.declared.job.Frame.{Frame}
use Rattle.tt_frames.specs.declared.job.Job.TheVariants as job
use Rattle.tt_frames.specs.declared.state.Counts.{Counts}
use Rattle.tt_evaluation.specs.Evaluation.{eval}
use Rattle.tt_evaluation.specs.Plans.{Stop}
use Rattle.tt_evaluation.specs.declared.stack.Pending.{Pending}
use Rattle.tt_evaluation.specs.declared.stack.Stack.{Stack}
use Rattle.tt_evaluation.specs.declared.stack.TheConstants.{STEPS}
use Rattle.tt_evaluation.proofs.Evaluations.{eval_is}
use Rattle.tt_hosting.specs.declared.driving.Reached.{Reached}
use Rattle.tt_hosting.specs.declared.driving.Reached.TheVariants as reached
use Rattle.tt_kept.proofs.Following.{same_asked}
use Rattle.tt_kept.specs.Answering.{Answers}
use Rattle.tt_kept.specs.Asking.{AsksNext, Coming, answered, asks, after_reply, ends, goes_on, having}
use Rattle.tt_kept.specs.Beginning.{BeginsThread}
use Rattle.tt_kept.specs.Leading.{LeadsTo}
use Rattle.tt_kept.specs.declared.kept.Kept.{Kept}
use Rattle.tt_kept.specs.declared.setup.Setup.{Setup}
use Rattle.tt_direct.specs.Leading.{TclStack, on_stack, within_calls}
use Rattle.tt_interp.specs.Interps.{GoesOnFrom, IsLast, StandsFor, after_got, coming, from_reached, request_of, serving_of, standing_of}
use Rattle.tt_interp.specs.declared.interp.Standing.{Standing}
use Rattle.tt_interp.specs.declared.interp.Standing.TheVariants as standing

-- a job that is begun on no calls is the evaluation of a thread that begins so
pub begun_on : {kept held : Kept} {later : Coming} (start : Start) (me limit : ℕ) (stack : TclStack)
    → stack.calls.items ≡ [] → stack.state ≡ fresh me limit → stack.steps ≡ STEPS
    → LeadsTo later kept (on_stack (plan (job.Start start)) stack) held
    → LeadsTo later kept (coming (standing.Fresh start me limit)) held
begun_on start me limit stack none is all goes replies request serving then =
    same_asked (λ gots.
    ap (λ (c : List (Pending Frame)). within_calls (plan (job.Start start) stack.state) c stack.steps gots) none
    ∙ sym (eval_is plan (job.Start start) stack.state stack.steps gots)
    ∙ ap (λ (s : Counts). eval plan (job.Start start) s stack.steps gots) is
    ∙ ap (λ (n : ℕ). eval plan (job.Start start) (fresh me limit) n gots) all)
    (goes replies request serving then)

-- what is wanted is answered
pub answered_so : (want : Want) (got : Got) (coming : Coming) (serving : List ℕ) (kept held : Kept) → coming [] ≡ Stop want serving
    → Answers want held got kept → LeadsTo (having got coming) kept coming held
answered_so want got coming serving kept held is gives replies request during asked = answered got is gives asked

-- what was reached stands where its stack halts
pub stood : {before : Coming} {held kept : Kept} (next : Standing) (reached : Reached Request Ending) (stack : Stack Counts Frame Asking)
    → next ≡ standing_of reached stack
    → LeadsTo (from_reached reached stack) kept before held
    → LeadsTo (coming next) kept before held
stood {before} {held} {kept} next (reached.Asks request) stack is leads =
    subst (λ s. LeadsTo (coming s) kept before held) (sym is) leads
stood {before} {held} {kept} next (reached.Over ending) stack is leads =
    subst (λ s. LeadsTo (coming s) kept before held) (sym is) leads

pub replied_on : (before : Stack Counts Frame Asking) (asked : Request) (reply : Reply) (kept new : Kept) (next : Coming)
    → IsTrue (goes_on asked) → LeadsTo next new (after_got before (gots.Reply reply)) kept
    → GoesOnFrom next new (coming (standing.Asks before asked)) kept (Some reply)
replied_on before asked reply kept new next goes leads replies request serving then =
    after_reply refl goes (leads replies request serving then)

pub stands : (setup : Setup) (me : ℕ) (start copy : Start) (kept : Kept)
    → copy ≡ start → BeginsThread setup me kept
    → StandsFor (record { kept = kept; standing = standing.Fresh copy me setup.limit }) setup me start
stands setup me start copy kept same begins replies request serving asked = record {
  kept = kept;
  steps = STEPS;
  begins = begins;
  asks = subst (λ s. AsksNext (eval plan (job.Start s) (fresh me setup.limit) STEPS) kept replies request serving) same asked;
}

-- what is asked now
pub asks_now : (kept : Kept) (at : Standing) (stack : Stack Counts Frame Asking) (request : Request)
    → at ≡ standing.Asks stack request → AsksNext (coming at) kept [] request (serving_of at)
asks_now kept at stack request is =
    subst (λ s. AsksNext (coming s) kept [] request (serving_of s)) (sym is) (asks refl)

pub ends_now : (kept : Kept) (at : Standing) (stack : Stack Counts Frame Asking) (ending : Ending) (last : Request)
    → at ≡ standing.Over stack ending → IsLast at last → AsksNext (coming at) kept [] last (serving_of at)
ends_now kept at stack ending last is over =
    subst (λ s. AsksNext (coming s) kept [] last (serving_of s)) (sym is)
    (subst (λ r. AsksNext (coming (standing.Over stack ending)) kept [] r [])
    (sym (subst (λ s. IsLast s last) is over)) (ends refl))

-- that is the request where it halts
pub asks_request : (at : Standing) (stack : Stack Counts Frame Asking) (request : Request) → at ≡ standing.Asks stack request → request ≡ request_of at
asks_request at stack request is = subst (λ (s : Standing). request ≡ request_of s) (sym is) refl

pub ends_request : (at : Standing) (stack : Stack Counts Frame Asking) (ending : Ending) (last : Request)
    → at ≡ standing.Over stack ending → IsLast at last → last ≡ request_of at
ends_request at stack ending last is over =
    subst (λ (s : Standing). last ≡ request_of s) (sym is) (subst (λ (s : Standing). IsLast s last) is over)
