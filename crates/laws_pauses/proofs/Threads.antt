-- A thread asks what its evaluation comes to.
use Rattle.std.proofs.Common.{◌≡◌, ◌∙◌, ◌+◌, ℕ, false, IsTrue, List, [], ◌∷◌, ◌++◌, refl, sym, subst, arith}
use Rattle.laws_language.proofs.Commands.{answers_law}
use Rattle.laws_language.proofs.Steps.{Extends, asked_again, extends-later}
use Rattle.laws_pauses.proofs.Steps.{comes_to_request}
use Rattle.laws_pauses.specs.NextRequest as come
use Rattle.laws_pauses.specs.NextRequest.{ComesToRequest, Giving, is_request}
use Rattle.laws_pauses.specs.Threads.{AsksOnLaw, MayKeep, at_start, later}
use Rattle.tt_calls.specs.declared.outcome.Code.{Code}
use Rattle.tt_calls.specs.declared.outcome.Code.TheVariants as code
use Rattle.tt_calls.specs.declared.reply.Reply.{Reply}
use Rattle.tt_calls.specs.declared.request.Request.{Request}
use Rattle.tt_evaluation.specs.Evaluation.{eval}
use Rattle.tt_evaluation.specs.Plans.{Course, Fin, Stop}
use Rattle.tt_frames.specs.Tcl.{plan}
use Rattle.tt_frames.specs.Units.{fresh}
use Rattle.tt_frames.specs.declared.job.Job.TheVariants as job
use Rattle.tt_frames.specs.declared.state.Counts.{Counts}
use Rattle.tt_kept.specs.Answering.{Answers}
use Rattle.tt_kept.specs.Asking.{AsksNext, Coming, after_reply, answered, asks, end_by, end_of, ends, goes_on, having}
use Rattle.tt_outcomes.specs.Endings.{code_of}
use Rattle.tt_kept.specs.Beginning.{IsNext}
use Rattle.tt_kept.specs.declared.kept.Kept.{Kept}
use Rattle.tt_kept.specs.declared.setup.Setup.{Setup}
use Rattle.tt_outcomes.specs.declared.ending.Ending.{Ending}
use Rattle.tt_outcomes.specs.declared.got.Got.{Got}
use Rattle.tt_outcomes.specs.declared.got.Got.TheVariants as gots
use Rattle.tt_outcomes.specs.declared.want.Want.{Want}
use Rattle.tt_outcomes.specs.declared.want.Want.TheVariants as want

abbrev Came : Type 0
Came = Course Want Got Ending Counts

one_want : {course : Came} {wanted other : Want} {serving during : List ℕ} → course ≡ Stop wanted serving → course ≡ Stop other during → wanted ≡ other
one_want is its = cc

not_both : {X : Type 0} {course : Came} {wanted : Want} {serving : List ℕ} {ending : Ending} {state : Counts} {steps : ℕ} {rest : List Got}
    → course ≡ Stop wanted serving → course ≡ Fin ending state steps rest → X
not_both is its = absurd (let both = sym is ∙ its in cc both)

no_request : {X : Type 0} {course : Came} {request : Request} {wanted : Want} {serving during : List ℕ} → course ≡ Stop (want.Ask request) serving
    → course ≡ Stop wanted during → is_request wanted ≡ false → X
no_request is its plain =
    let same = one_want is its in
    absurd (let both = subst (λ one. is_request one ≡ false) (sym same) plain in cc both)

plainly : (wanted : Want) (old new : Kept) (got : Got) → Answers wanted old got new → is_request wanted ≡ false
plainly (want.Ask request) old new got gives = absurd gives
plainly (want.ReadVar name index) old new got gives = refl
plainly (want.WriteVar name index value) old new got gives = refl
plainly (want.RunWords words) old new got gives = refl
plainly want.Enter old new got gives = refl
plainly (want.Leave body) old new got gives = refl
plainly (want.Watch name) old new got gives = refl
plainly want.Seen old new got gives = refl
plainly want.Unwatch old new got gives = refl

goes_no_more : {X : Type 0} (ending : Ending) → IsTrue (goes_on (end_of ending)) → X
goes_no_more {X} ending goes = go (code_of ending) goes
  where
    go : (code : Code) → IsTrue (goes_on (end_by code)) → X
    go code.Fine goes = absurd (cc goes)
    go code.Failed goes = absurd (cc goes)
    go code.Returned goes = absurd (cc goes)
    go code.Broke goes = absurd (cc goes)
    go code.Continued goes = absurd (cc goes)

having_on : {one other : Coming} (got : Got) → Extends one other → Extends (having got one) (having got other)
having_on got more = record { stops = λ answers. more.stops (got ∷ answers); finishes = λ answers. more.finishes (got ∷ answers) }

module _ (setup : Setup) (me : ℕ) where
  abbrev Keeps : Type 0
  Keeps = (kept : Kept) × MayKeep setup me kept

  abbrev gives : Giving Keeps
  gives wanted old got new = Answers wanted old.0 got new.0

  -- with more steps
  more_come : {one other : Coming} {kept : Keeps} {replies : List Reply} → Extends one other → ComesToRequest gives one kept replies
      → ComesToRequest gives other kept replies
  more_come more (come.asks {request = request} {serving = serving} is) = come.asks (more.stops [] (want.Ask request) serving is)
  more_come {other = other} more (come.after_reply {request = request} {serving = serving} {reply = reply} is rest) =
      come.after_reply (more.stops [] (want.Ask request) serving is)
      (more_come {other = having (gots.Reply reply) other} (having_on (gots.Reply reply) more) rest)
  more_come {other = other} more (come.answered {wanted = wanted} {serving = serving} got is plain given rest) =
      come.answered got (more.stops [] wanted serving is) plain given (more_come {other = having got other} (having_on got more) rest)
  more_come more (come.ends {ending = ending} {state = state} {steps = steps} is) = come.ends (more.finishes [] ending state steps [] is).1

  abbrev Asks : Coming → Kept → List Reply → Type 0
  Asks coming kept replies = (request : Request) × (serving : List ℕ) × AsksNext coming kept replies request serving

  -- without a reply
  asks_now : {coming : Coming} {kept : Keeps} {replies : List Reply} → replies ≡ [] → ComesToRequest gives coming kept replies → Asks coming kept.0 []
  asks_now none (come.asks is) = (_, _, asks is)
  asks_now none (come.after_reply is rest) = absurd (cc none)
  asks_now none (come.answered got is plain given rest) =
      let found = asks_now none rest in
      (found.0, found.1, answered got is given found.2)
  asks_now none (come.ends {ending = ending} is) = (end_of ending, [], ends is)

  -- after a reply more
  asks_later : {coming : Coming} {kept : Keeps} {replies all : List Reply} {request : Request} {serving : List ℕ} (reply : Reply)
      → AsksNext coming kept.0 replies request serving → IsTrue (goes_on request) → all ≡ replies ++ reply ∷ [] → ComesToRequest gives coming kept all
      → Asks coming kept.0 all
  asks_later reply (asks is) goes all (come.asks its) = absurd (cc all)
  asks_later {coming = coming} {kept = kept} reply (asks is) goes all (come.after_reply {reply = told} {replies = left} its rest) =
      let none : left ≡ [] = cc all in
      let found = asks_now none rest in
      subst (λ more. Asks coming kept.0 (told ∷ more)) (sym none) (found.0, found.1, after_reply is goes found.2)
  asks_later reply (asks is) goes all (come.answered got its plain given rest) = no_request is its plain
  asks_later reply (asks is) goes all (come.ends its) = not_both is its
  asks_later reply (after_reply is going before) goes all (come.asks its) = absurd (cc all)
  asks_later {coming = coming} {kept = kept} {request = request} {serving = serving} reply
      (after_reply {reply = had} {replies = replies} is going before) goes all (come.after_reply {reply = told} {replies = left} its rest) =
      let same : told ≡ had = cc all in
      let tail : left ≡ replies ++ reply ∷ [] = cc all in
      let found = asks_later {coming = having (gots.Reply told) coming} reply
      (subst (λ one. AsksNext (having (gots.Reply one) coming) kept.0 replies request serving) (sym same) before) goes tail rest in
      (found.0, found.1, after_reply is going found.2)
  asks_later reply (after_reply is going before) goes all (come.answered got its plain given rest) = no_request is its plain
  asks_later reply (after_reply is going before) goes all (come.ends its) = not_both is its
  asks_later reply (answered got is gets before) goes all (come.asks its) = no_request its is (plainly _ _ _ _ gets)
  asks_later reply (answered got is gets before) goes all (come.after_reply its rest) = no_request its is (plainly _ _ _ _ gets)
  asks_later {coming = coming} {kept = kept} {replies = replies} {request = request} {serving = serving} reply
      (answered {new = new} {want = one} got is gets before) goes all (come.answered {new = next} {wanted = wanted} other its plain given rest) =
      let wants = one_want is its in
      let same = answers_law one kept.0 got other new next.0 gets (subst (λ w. Answers w kept.0 other next.0) (sym wants) given) in
      let first = subst (λ it. AsksNext (having it coming) new replies request serving) same.0 before in
      let second = subst (λ held. AsksNext (having other coming) held replies request serving) same.1 first in
      let found = asks_later {coming = having other coming} {kept = next} reply second goes all rest in
      (found.0, found.1, answered other its given found.2)
  asks_later reply (answered got is gets before) goes all (come.ends its) = not_both is its
  asks_later reply (ends {ending = ending} is) goes all comes = goes_no_more ending goes

pub asks_on : AsksOnLaw
asks_on setup me start kept begins answers = record { first = first; next = next }
  where
    state : Counts
    state = fresh me setup.limit

    comes : (replies : List Reply) (held : Keeps setup me)
        → (n : ℕ) × ComesToRequest (gives setup me) (eval plan (job.Start start) state n) held replies
    comes replies held =
        comes_to_request (gives setup me)
        (λ wanted old plain. let found = answers wanted old.0 old.1 plain in (found.0, (found.1, later wanted found.0 old.1 found.2), found.2))
        replies held (job.Start start) state

    first : (request : Request) × (serving : List ℕ) × IsNext setup me start [] request serving
    first =
        let found = comes [] (kept, at_start begins) in
        let asked = asks_now setup me refl found.1 in
        (asked.0, asked.1, record { kept = kept; steps = found.0; begins = begins; asks = asked.2 })

    next : (replies : List Reply) (request : Request) (serving : List ℕ) (reply : Reply) → IsNext setup me start replies request serving
        → IsTrue (goes_on request) → (following : Request) × (now : List ℕ) × IsNext setup me start (replies ++ reply ∷ []) following now
    next replies request serving reply before goes =
        let held : Keeps setup me = (before.kept, at_start before.begins) in
        let found = comes (replies ++ reply ∷ []) held in
        let steps = before.steps + found.0 in
        let asked = asks_later setup me {kept = held} reply
        (asked_again (extends-later (job.Start start) state before.steps steps (omega arith)) before.asks) goes refl
        (more_come setup me (extends-later (job.Start start) state found.0 steps (omega arith)) found.1) in
        (asked.0, asked.1, record { kept = before.kept; steps = steps; begins = before.begins; asks = asked.2 })
