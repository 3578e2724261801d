-- What is asked next doesn't hang on the number of steps.
use Rattle.std.proofs.Common.{◌≡◌, ◌≤◌, ◌+◌, ◌-◌, ℕ, List, [], ◌∷◌, subst, arith}
use Rattle.tt_calls.specs.declared.reply.Reply.{Reply}
use Rattle.tt_calls.specs.declared.request.Request.{Request}
use Rattle.tt_outcomes.specs.declared.ending.Ending.{Ending}
use Rattle.tt_frames.specs.Tcl.{plan}
use Rattle.tt_frames.specs.declared.job.Job.{Job}
use Rattle.tt_frames.specs.declared.state.Counts.{Counts}
use Rattle.tt_evaluation.specs.Evaluation.{eval}
use Rattle.tt_evaluation.specs.Plans.{Stop, Fin}
use Rattle.tt_evaluation.proofs.MoreSteps.{stops_again, finishes_again}
use Rattle.tt_outcomes.specs.declared.got.Got.{Got}
use Rattle.tt_outcomes.specs.declared.got.Got.TheVariants as gots
use Rattle.tt_outcomes.specs.declared.want.Want.{Want}
use Rattle.tt_outcomes.specs.declared.want.Want.TheVariants.{Ask}
use Rattle.tt_kept.specs.Asking.{AsksNext, Coming, having, asks, after_reply, answered, ends}
use Rattle.tt_kept.specs.declared.kept.Kept.{Kept}

-- another evaluation comes to the same wherever this one doesn't run out of steps
pub record Extends (one other : Coming) : Type 0 where
  pub stops : (answers : List Got) (want : Want) (serving : List ℕ) → one answers ≡ Stop want serving → other answers ≡ Stop want serving
  pub finishes : (answers : List Got) (ending : Ending) (state : Counts) (steps : ℕ) (rest : List Got) → one answers ≡ Fin ending state steps rest
      → (left : ℕ) × (other answers ≡ Fin ending state left rest)

extends-having : {one other : Coming} (got : Got) → Extends one other → Extends (having got one) (having got other)
extends-having got more = record {
  stops = λ answers. more.stops (got ∷ answers);
  finishes = λ answers. more.finishes (got ∷ answers);
}

-- the same is asked with more steps
pub asked_again : {one other : Coming} {kept : Kept} {replies : List Reply} {request : Request} {serving : List ℕ}
    → Extends one other → AsksNext one kept replies request serving → AsksNext other kept replies request serving
asked_again more (asks {request = request} {serving = serving} is) = asks (more.stops [] (Ask request) serving is)
asked_again more (after_reply {asked = asked} {during = during} {reply = reply} is goes rest) =
    after_reply (more.stops [] (Ask asked) during is) goes (asked_again (extends-having (gots.Reply reply) more) rest)
asked_again more (answered {want = want} got {during = during} is gives rest) =
    answered got (more.stops [] want during is) gives (asked_again (extends-having got more) rest)
asked_again more (ends {ending = ending} {state = state} {steps = steps} is) =
    ends (more.finishes [] ending state steps [] is).1

finishes_later : (job : Job) (state : Counts) (n m : ℕ) (answers : List Got) (ending : Ending) (after : Counts) (k : ℕ) (rest : List Got) → n ≤ m
    → eval plan job state n answers ≡ Fin ending after k rest → (left : ℕ) × (eval plan job state m answers ≡ Fin ending after left rest)
finishes_later job state n m answers ending after k rest le is =
    let same : n + (m - n) ≡ m = omega arith in (
      k + (m - n),
      subst (λ (x : ℕ). eval plan job state x answers ≡ Fin ending after (k + (m - n)) rest) same
          (finishes_again plan job state n (m - n) answers ending after k rest is),
    )

pub extends-later : (job : Job) (state : Counts) (n m : ℕ) → n ≤ m → Extends (eval plan job state n) (eval plan job state m)
extends-later job state n m le = record {
  stops = λ answers want serving. stops_again plan job state n m answers want serving le;
  finishes = λ answers ending after k rest. finishes_later job state n m answers ending after k rest le;
}
