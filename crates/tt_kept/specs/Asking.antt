-- What a thread asks next: its evaluation gets what it wants from what is kept, and replies to what it asks
-- (thread(n)).
use Rattle.std.specs.Prelude.{ℕ, pos, ◌≡◌, Bool, true, false, IsTrue, List, [], ◌∷◌}
use Rattle.tt_calls.specs.declared.outcome.Code.{Code}
use Rattle.tt_calls.specs.declared.outcome.Code.TheVariants as code
use Rattle.tt_calls.specs.declared.reply.Reply.{Reply}
use Rattle.tt_calls.specs.declared.request.Request.{Request}
use Rattle.tt_calls.specs.declared.request.Request.TheVariants as ask
use Rattle.tt_outcomes.specs.Endings.{code_of}
use Rattle.tt_outcomes.specs.declared.ending.Ending.{Ending}
use Rattle.tt_frames.specs.declared.state.Counts.{Counts}
use Rattle.tt_evaluation.specs.Plans.{Course, Stop, Fin}
use Rattle.tt_outcomes.specs.declared.got.Got.{Got}
use Rattle.tt_outcomes.specs.declared.got.Got.TheVariants as gots
use Rattle.tt_outcomes.specs.declared.want.Want.{Want}
use Rattle.tt_outcomes.specs.declared.want.Want.TheVariants.{Ask}
use Rattle.tt_kept.specs.Answering.{Answers}
use Rattle.tt_kept.specs.declared.kept.Kept.{Kept}

-- what an evaluation comes to after further answers to what it wants
abbrev pub Coming : Type 0
Coming = List Got → Course Want Got Ending Counts

-- once it got this
abbrev pub having : Got → Coming → Coming
having got coming gots = coming (got ∷ gots)

-- the last request of a thread, by how its evaluation ended: its exit code is 0 or 1
abbrev pub end_by : Code → Request
end_by code.Fine = ask.End (pos 0)
end_by code = ask.End (pos 1)

abbrev pub end_of : Ending → Request
end_of ending = end_by (code_of ending)

-- a thread goes on after the reply to each request but these
abbrev pub goes_on : Request → Bool
goes_on (ask.End code) = false
goes_on (ask.Exit code) = false
goes_on request = true

-- what it asks next, from what its evaluation comes to, what it keeps and the replies, and the posts that it serves
-- then, innermost first
pub data AsksNext : Coming → Kept → List Reply → Request → (serving : List ℕ) → Type 0 where
  asks : {coming : Coming} {kept : Kept} {request : Request} {serving : List ℕ} →
      coming [] ≡ Stop (Ask request) serving →
      AsksNext coming kept [] request serving
  after_reply :
      {coming : Coming} {kept : Kept} {asked request : Request} {during serving : List ℕ}
      {reply : Reply} {replies : List Reply} →
      coming [] ≡ Stop (Ask asked) during →
      IsTrue (goes_on asked) →
      AsksNext (having (gots.Reply reply) coming) kept replies request serving →
      AsksNext coming kept (reply ∷ replies) request serving
  answered :
      {coming : Coming} {old new : Kept} {want : Want} (got : Got) {request : Request}
      {during serving : List ℕ} {replies : List Reply} →
      coming [] ≡ Stop want during →
      Answers want old got new →
      AsksNext (having got coming) new replies request serving →
      AsksNext coming old replies request serving
  ends : {coming : Coming} {kept : Kept} {ending : Ending} {state : Counts} {steps : ℕ} →
      coming [] ≡ Fin ending state steps [] →
      AsksNext coming kept [] (end_of ending) []
