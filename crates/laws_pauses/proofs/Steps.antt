-- What a plan leads to is what its evaluation comes to, with some number of steps.
use Rattle.std.proofs.Common.{◌≡◌, ◌∙◌, ◌+◌, ℕ, suc, true, false, List, [], ◌∷◌, ◌++◌, Option, ap, refl, sym, subst, arith}
use Rattle.laws_pauses.proofs.Leads.{Asked, Ended, Leads, Result, at_end, at_request, given, leads_on, over, replied, returns, stops}
use Rattle.laws_pauses.specs.NextRequest.{ComesToRequest, Giving, NextRequestLaw, after_reply, answered, answers_by, asks, ends, is_request}
use Rattle.tt_kept.specs.Asking.{Coming, having}
use Rattle.tt_calls.specs.declared.reply.Reply.{Reply}
use Rattle.tt_calls.specs.declared.request.Request.{Request}
use Rattle.tt_evaluation.proofs.Evaluations.{eval_is}
use Rattle.tt_evaluation.specs.Evaluation.{eval}
use Rattle.tt_evaluation.specs.Plans.{Asks, Calls, Course, Fin, Goes, Stop, course_with_post, follow, posts_of, then_do}
use Rattle.tt_frames.specs.Tcl.{plan}
use Rattle.tt_frames.specs.Vocabulary.{OnEnding, TclPlan, Then}
use Rattle.tt_frames.specs.declared.job.Job.{Job}
use Rattle.tt_frames.specs.declared.state.Counts.{Counts}
use Rattle.tt_outcomes.specs.declared.ending.Ending.{Ending}
use Rattle.tt_outcomes.specs.declared.got.Got.{Got}
use Rattle.tt_outcomes.specs.declared.got.Got.TheVariants as got
use Rattle.tt_outcomes.specs.declared.want.Want.{Want}
use Rattle.tt_outcomes.specs.declared.want.Want.TheVariants as want

abbrev Came : Type 0
Came = Course Want Got Ending Counts

-- what stands around a course: a stop stays one
record Around (around : Came → Came) : Type 0 where
  stop : (wanted : Want) (serving : List ℕ) → (now : List ℕ) × (around (Stop wanted serving) ≡ Stop wanted now)

abbrev nothing : Came → Came
nothing course = course

nothing_around : Around nothing
nothing_around = record { stop = λ wanted serving. (serving, refl) }

-- a call
abbrev of_call : (Came → Came) → Option ℕ → OnEnding → Came → Came
of_call around serves on course = around (then_do (course_with_post serves course) (λ ending st k rest. follow (eval plan) (on ending st) k rest))

call_around : (around : Came → Came) (serves : Option ℕ) (on : OnEnding) → Around around → Around (of_call around serves on)
call_around around serves on is = record { stop = λ wanted serving. is.stop wanted (serving ++ posts_of serves) }

-- a request
request_in : (wanted : Want) → is_request wanted ≡ true → (request : Request) × (wanted ≡ want.Ask request)
request_in (want.Ask request) is = (request, refl)
request_in (want.ReadVar name index) is = absurd (cc is)
request_in (want.WriteVar name index value) is = absurd (cc is)
request_in (want.RunWords words) is = absurd (cc is)
request_in want.Enter is = absurd (cc is)
request_in (want.Leave body) is = absurd (cc is)
request_in (want.Watch name) is = absurd (cc is)
request_in want.Seen is = absurd (cc is)
request_in want.Unwatch is = absurd (cc is)

module _ {K : Type 0} (gives : Giving K) where
  same_comes : {one other : Coming} {kept : K} {replies : List Reply} → ((gots : List Got) → one gots ≡ other gots)
      → ComesToRequest gives other kept replies → ComesToRequest gives one kept replies
  same_comes same (asks is) = asks (same [] ∙ is)
  same_comes {one = one} same (after_reply {reply = reply} is rest) =
      after_reply (same [] ∙ is) (same_comes {one = having (got.Reply reply) one} (λ gots. same (got.Reply reply ∷ gots)) rest)
  same_comes {one = one} same (answered it is plain gets rest) =
      answered it (same [] ∙ is) plain gets (same_comes {one = having it one} (λ gots. same (it ∷ gots)) rest)
  same_comes same (ends is) = ends (same [] ∙ is)

  abbrev From : (Came → Came) → TclPlan → ℕ → Coming
  From around one n gots = around (follow (eval plan) one n gots)

  -- with so many steps, and more
  abbrev Steps : List Reply → K → TclPlan → Result K → Type 0
  Steps replies kept one Asked =
      (cost : ℕ) × ((around : Came → Came) → Around around → (n m : ℕ) → n ≡ cost + m → ComesToRequest gives (From around one n) kept replies)
  Steps replies kept one (Ended ending state new later) =
      (cost : ℕ) × ((around : Came → Came) → Around around → (n m : ℕ) → n ≡ cost + m
      → ComesToRequest gives (λ gots. around (Fin ending state m gots)) new later
      → ComesToRequest gives (From around one n) kept replies)

  stopped : (around : Came → Came) → Around around → (wanted : Want) (request : Request) (course : Came) → course ≡ Stop wanted []
      → wanted ≡ want.Ask request → (now : List ℕ) × (around course ≡ Stop (want.Ask request) now)
  stopped around is wanted request course at same =
      let found = is.stop wanted [] in
      (found.0, ap around at ∙ found.1 ∙ ap (λ one. Stop one found.0) same)

  at_reply : (replies : List Reply) (reply : Reply) (kept : K) (wanted : Want) (state : Counts) (on : Got → Then) (result : Result K)
      → is_request wanted ≡ true → Steps replies kept (on (got.Reply reply) state) result → Steps (reply ∷ replies) kept (Asks wanted state on) result
  at_reply replies reply kept wanted state on Asked is rest =
      let asked = request_in wanted is in (
        rest.0,
        λ around fits n m same. after_reply (stopped around fits wanted asked.0 (Stop wanted []) refl asked.1).1 (rest.1 around fits n m same),
      )
  at_reply replies reply kept wanted state on (Ended ending after new later) is rest =
      let asked = request_in wanted is in (
        rest.0,
        λ around fits n m same last. after_reply (stopped around fits wanted asked.0 (Stop wanted []) refl asked.1).1 (rest.1 around fits n m same last),
      )

  at_want : (replies : List Reply) (old next : K) (wanted : Want) (state : Counts) (on : Got → Then) (it : Got) (result : Result K)
      → is_request wanted ≡ false → gives wanted old it next → Steps replies next (on it state) result → Steps replies old (Asks wanted state on) result
  at_want replies old next wanted state on it Asked is gets rest =
      (rest.0, λ around fits n m same. answered it (fits.stop wanted []).1 is gets (rest.1 around fits n m same))
  at_want replies old next wanted state on it (Ended ending after new later) is gets rest =
      (rest.0, λ around fits n m same last. answered it (fits.stop wanted []).1 is gets (rest.1 around fits n m same last))

  -- one step more, into a job
  into : (around : Came → Came) (one : TclPlan) (first : Job) (state : Counts) (n k : ℕ) (kept : K) (replies : List Reply) → n ≡ suc k
      → ((gots : List Got) → From around one (suc k) gots ≡ around (eval plan first state k gots))
      → ComesToRequest gives (From around (plan first state) k) kept replies → ComesToRequest gives (From around one n) kept replies
  into around one first state n k kept replies same goes comes =
      subst (λ i. ComesToRequest gives (From around one i) kept replies) (sym same)
      (same_comes (λ gots. goes gots ∙ ap around (eval_is plan first state k gots)) comes)

  -- the same of a call, in what stands around it
  into_call : (around : Came → Came) (serves : Option ℕ) (first : Job) (state : Counts) (on : OnEnding) (n k : ℕ) (kept : K) (replies : List Reply)
      → n ≡ suc k → ComesToRequest gives (From (of_call around serves on) (plan first state) k) kept replies
      → ComesToRequest gives (From around (Calls serves first state on) n) kept replies
  into_call around serves first state on n k kept replies same comes =
      subst (λ i. ComesToRequest gives (From around (Calls serves first state on) i) kept replies) (sym same)
      (same_comes (λ gots. ap (of_call around serves on) (eval_is plan first state k gots)) comes)

  at_return : (replies later : List Reply) (old new : K) (serves : Option ℕ) (first : Job) (state after : Counts) (on : OnEnding) (ending : Ending)
      (result : Result K) → Steps replies old (plan first state) (Ended ending after new later) → Steps later new (on ending after) result
      → Steps replies old (Calls serves first state on) result
  at_return replies later old new serves first state after on ending Asked inner rest = (
    suc (inner.0 + rest.0),
    λ around fits n m same. into_call around serves first state on n (inner.0 + (rest.0 + m)) old replies (omega (arith, same))
        (inner.1 (of_call around serves on) (call_around around serves on fits) (inner.0 + (rest.0 + m)) (rest.0 + m) refl
        (rest.1 around fits (rest.0 + m) m refl)),
  )
  at_return replies later old new serves first state after on ending (Ended last end newer latest) inner rest = (
    suc (inner.0 + rest.0),
    λ around fits n m same finally. into_call around serves first state on n (inner.0 + (rest.0 + m)) old replies (omega (arith, same))
        (inner.1 (of_call around serves on) (call_around around serves on fits) (inner.0 + (rest.0 + m)) (rest.0 + m) refl
        (rest.1 around fits (rest.0 + m) m refl finally)),
  )

  at_stop : (replies : List Reply) (kept : K) (serves : Option ℕ) (first : Job) (state : Counts) (on : OnEnding)
      → Steps replies kept (plan first state) Asked → Steps replies kept (Calls serves first state on) Asked
  at_stop replies kept serves first state on inner = (
    suc inner.0,
    λ around fits n m same. into_call around serves first state on n (inner.0 + m) kept replies (omega (arith, same))
        (inner.1 (of_call around serves on) (call_around around serves on fits) (inner.0 + m) m refl),
  )

  at_goes : (replies : List Reply) (kept : K) (first : Job) (state : Counts) (result : Result K)
      → Steps replies kept (plan first state) result → Steps replies kept (Goes first state) result
  at_goes replies kept first state Asked inner = (
    suc inner.0,
    λ around fits n m same. into around (Goes first state) first state n (inner.0 + m) kept replies (omega (arith, same)) (λ gots. refl)
        (inner.1 around fits (inner.0 + m) m refl),
  )
  at_goes replies kept first state (Ended ending after new later) inner = (
    suc inner.0,
    λ around fits n m same last. into around (Goes first state) first state n (inner.0 + m) kept replies (omega (arith, same)) (λ gots. refl)
        (inner.1 around fits (inner.0 + m) m refl last),
  )

  steps_of : {replies : List Reply} {kept : K} {one : TclPlan} {result : Result K} → Leads gives replies kept one result → Steps replies kept one result
  steps_of {replies = replies} {kept = kept} (at_end {ending = ending} {state = state}) = (
    0,
    λ around fits n m same last.
        let equal : n ≡ m = omega (arith, same) in
        subst (λ i. ComesToRequest gives (λ gots. around (Fin ending state i gots)) kept replies) (sym equal) last,
  )
  steps_of (at_request {wanted = wanted} {state = state} {on = on} is) =
      let asked = request_in wanted is in
      (0, λ around fits n m same. asks (stopped around fits wanted asked.0 (Stop wanted []) refl asked.1).1)
  steps_of (replied {reply} {replies} {kept} {wanted} {state} {on} {result} is rest) =
      at_reply replies reply kept wanted state on result is (steps_of rest)
  steps_of (given {replies} {old} {new} {wanted} {state} {on} {result} it is gets rest) =
      at_want replies old new wanted state on it result is gets (steps_of rest)
  steps_of (stops {replies = replies} {kept = kept} {serves = serves} {job = first} {state = state} {on = on} inner) =
      at_stop replies kept serves first state on (steps_of inner)
  steps_of (returns {replies = replies} {later = later} {old = old} {new = new} {serves = serves} {job = first} {state = state} {after = after}
      {on = on} {ending = ending}
      {result = result} inner rest) =
      at_return replies later old new serves first state after on ending result (steps_of inner) (steps_of rest)
  steps_of (over {replies = replies} {kept = kept} {job = first} {state = state} {result = result} inner) =
      at_goes replies kept first state result (steps_of inner)

  pub comes_to_request : ((wanted : Want) (old : K) → is_request wanted ≡ false → (it : Got) × (new : K) × gives wanted old it new)
      → (replies : List Reply) (kept : K) (first : Job) (state : Counts)
      → (n : ℕ) × ComesToRequest gives (eval plan first state n) kept replies
  comes_to_request total replies kept first state =
      let found = leads_on gives total replies kept first state in
      go found.result (steps_of found.leads)
    where
      go : (result : Result K) → Steps replies kept (plan first state) result → (n : ℕ) × ComesToRequest gives (eval plan first state n) kept replies
      go Asked steps = (steps.0 + 0, same_comes (eval_is plan first state (steps.0 + 0)) (steps.1 nothing nothing_around (steps.0 + 0) 0 refl))
      go (Ended ending after new later) steps =
          (steps.0 + 0, same_comes (eval_is plan first state (steps.0 + 0)) (steps.1 nothing nothing_around (steps.0 + 0) 0 refl (ends refl)))

pub next_requests : NextRequestLaw
next_requests answer replies first state =
    comes_to_request (answers_by answer) (λ wanted old no. (answer old wanted, old ++ answer old wanted ∷ [], (refl, refl))) replies [] first state
