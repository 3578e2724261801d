-- An evaluation comes to its next request, whatever it gets (Tcl(n), thread(n)).
use Rattle.std.specs.Prelude.{◌≡◌, ℕ, Bool, true, false, List, [], ◌∷◌, ◌++◌}
use Rattle.tt_calls.specs.declared.reply.Reply.{Reply}
use Rattle.tt_calls.specs.declared.request.Request.{Request}
use Rattle.tt_evaluation.specs.Evaluation.{eval}
use Rattle.tt_evaluation.specs.Plans.{Fin, Stop}
use Rattle.tt_frames.specs.Tcl.{plan}
use Rattle.tt_frames.specs.declared.job.Job.{Job}
use Rattle.tt_frames.specs.declared.state.Counts.{Counts}
use Rattle.tt_kept.specs.Asking.{Coming, having}
use Rattle.tt_outcomes.specs.declared.ending.Ending.{Ending}
use Rattle.tt_outcomes.specs.declared.got.Got.{Got}
use Rattle.tt_outcomes.specs.declared.got.Got.TheVariants as gots
use Rattle.tt_outcomes.specs.declared.want.Want.{Want}
use Rattle.tt_outcomes.specs.declared.want.Want.TheVariants as want

-- what threads share is asked for it; anything else is got from what the thread keeps
abbrev pub is_request : Want → Bool
is_request (want.Ask request) = true
is_request other = false

-- what is got for what is wanted, by what is kept, and what is kept then
abbrev pub Giving : (K : Type 0) → Type 1
Giving K = Want → (old : K) → Got → (new : K) → Type 0

-- after these replies it comes to a request, or it has come to its end
pub data ComesToRequest {K : Type 0} (gives : Giving K) : Coming → K → List Reply → Type 0 where
  asks : {coming : Coming} {kept : K} {request : Request} {serving : List ℕ} →
      coming [] ≡ Stop (want.Ask request) serving →
      ComesToRequest gives coming kept []
  after_reply :
      {coming : Coming} {kept : K} {request : Request} {serving : List ℕ} {reply : Reply} {replies : List Reply} →
      coming [] ≡ Stop (want.Ask request) serving →
      ComesToRequest gives (having (gots.Reply reply) coming) kept replies →
      ComesToRequest gives coming kept (reply ∷ replies)
  answered :
      {coming : Coming} {old new : K} {wanted : Want} {serving : List ℕ} {replies : List Reply} (got : Got) →
      coming [] ≡ Stop wanted serving →
      is_request wanted ≡ false →
      gives wanted old got new →
      ComesToRequest gives (having got coming) new replies →
      ComesToRequest gives coming old replies
  ends : {coming : Coming} {kept : K} {replies : List Reply} {ending : Ending} {state : Counts} {steps : ℕ} →
      coming [] ≡ Fin ending state steps [] →
      ComesToRequest gives coming kept replies

-- any way to answer what is wanted, by all that was answered before
abbrev pub Answering : Type 0
Answering = (before : List Got) → Want → Got

abbrev pub answers_by : Answering → Giving (List Got)
answers_by answer wanted before got after = (got ≡ answer before wanted) × (after ≡ before ++ got ∷ [])

-- Whatever an evaluation gets, and whatever is replied, it comes to its next request or to its end, with some number of
-- steps. A loop that goes on for ever asks for a pause, and past the limit of units it ends.
abbrev pub NextRequestLaw : Type 0
NextRequestLaw =
    (answer : Answering) (replies : List Reply) (job : Job) (state : Counts) →
    (n : ℕ) × ComesToRequest (answers_by answer) (eval plan job state n) [] replies
