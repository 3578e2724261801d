-- What a plan leads to, whatever it gets: big steps, without a number of them.
use Rattle.std.proofs.Common.{◌≡◌, ◌≤◌, ◌<◌, ◌+◌, ◌*◌, ◌⊎◌, inl, inr, ℕ, zero, suc, Bool, true, false, List, [], ◌∷◌, Option, length, refl, arith}
use Rattle.std.specs.Bool.{⊤}
use Rattle.laws_pauses.proofs.Events.{tcl_bounded}
use Rattle.laws_pauses.specs.NextRequest.{Giving}
use Rattle.laws_pauses.proofs.Bounds.{Comes, asks, calls, ends, goes, left, rank, wants}
use Rattle.laws_pauses.specs.NextRequest.{is_request}
use Rattle.tt_calls.specs.declared.reply.Reply.{Reply}
use Rattle.tt_evaluation.specs.Plans.{Asks, Calls, Ends, Goes}
use Rattle.tt_frames.specs.Tcl.{plan}
use Rattle.tt_frames.specs.Vocabulary.{OnEnding, TclPlan, Then}
use Rattle.tt_frames.specs.declared.job.Job.{Job}
use Rattle.tt_frames.specs.declared.state.Counts.{Counts}
use Rattle.tt_outcomes.specs.declared.ending.Ending.{Ending}
use Rattle.tt_outcomes.specs.declared.got.Got.{Got}
use Rattle.tt_outcomes.specs.declared.got.Got.TheVariants as got
use Rattle.tt_outcomes.specs.declared.want.Want.{Want}

-- a request for which no reply is left, or an ending, with the replies that are left
pub data Result (K : Type 0) : Type 0 where
  Asked : Result K
  Ended : Ending → Counts → K → List Reply → Result K

pub data Leads {K : Type 0} (gives : Giving K) : List Reply → K → TclPlan → Result K → Type 0 where
  at_end : {replies : List Reply} {kept : K} {ending : Ending} {state : Counts} → Leads gives replies kept (Ends ending state) (Ended ending state kept replies)
  at_request : {kept : K} {wanted : Want} {state : Counts} {on : Got → Then} → is_request wanted ≡ true → Leads gives [] kept (Asks wanted state on) Asked
  replied : {reply : Reply} {replies : List Reply} {kept : K} {wanted : Want} {state : Counts} {on : Got → Then} {result : Result K} →
      is_request wanted ≡ true → Leads gives replies kept (on (got.Reply reply) state) result → Leads gives (reply ∷ replies) kept (Asks wanted state on) result
  given : {replies : List Reply} {old new : K} {wanted : Want} {state : Counts} {on : Got → Then} {result : Result K} (it : Got) →
      is_request wanted ≡ false → gives wanted old it new → Leads gives replies new (on it state) result → Leads gives replies old (Asks wanted state on) result
  stops : {replies : List Reply} {kept : K} {serves : Option ℕ} {job : Job} {state : Counts} {on : OnEnding} →
      Leads gives replies kept (plan job state) Asked → Leads gives replies kept (Calls serves job state on) Asked
  returns : {replies later : List Reply} {old new : K} {serves : Option ℕ} {job : Job} {state after : Counts} {on : OnEnding} {ending : Ending}
      {result : Result K} →
      Leads gives replies old (plan job state) (Ended ending after new later) → Leads gives later new (on ending after) result →
      Leads gives replies old (Calls serves job state on) result
  over : {replies : List Reply} {kept : K} {job : Job} {state : Counts} {result : Result K} →
      Leads gives replies kept (plan job state) result → Leads gives replies kept (Goes job state) result

-- an ending without a reply has no more left; and no replies come anew
abbrev pub Fits : {K : Type 0} → ℕ → List Reply → Result K → Type 0
Fits most replies Asked = ⊤
Fits most replies (Ended ending state kept later) = (length later < length replies) ⊎ ((length later ≡ length replies) × (left state ≤ most))

-- it leads to something
pub record LeadsOn {K : Type 0} (gives : Giving K) (most : ℕ) (replies : List Reply) (kept : K) (one : TclPlan) : Type 0 where
  pub result : Result K
  pub leads : Leads gives replies kept one result
  pub fits : Fits most replies result

-- if what is wanted is always given
module _ {K : Type 0} (gives : Giving K)
    (total : (wanted : Want) (old : K) → is_request wanted ≡ false → (it : Got) × (new : K) × gives wanted old it new) where
  -- plans that come to something whenever fewer replies are left
  abbrev Shorter : ℕ → Type 0
  Shorter size =
      (replies : List Reply) (kept : K) (most budget : ℕ) (one : TclPlan) → length replies < size → Comes most budget one
      → LeadsOn gives most replies kept one

  -- or as many, and less is left
  abbrev Lighter : ℕ → ℕ → Type 0
  Lighter size fuel =
      (replies : List Reply) (kept : K) (most budget : ℕ) (one : TclPlan) → length replies ≤ size → budget < fuel → Comes most budget one
      → LeadsOn gives most replies kept one

  fewer : (most other : ℕ) (replies later : List Reply) (result : Result K) → length later < length replies → Fits other later result → Fits most replies result
  fewer most other replies later Asked less fits = tt
  fewer most other replies later (Ended ending state kept last) less (inl is) = inl (omega (arith, less, is))
  fewer most other replies later (Ended ending state kept last) less (inr is) = inl (omega (arith, less, is.0))

  as_many : (most : ℕ) (replies later : List Reply) (result : Result K) → length later ≡ length replies → Fits most later result → Fits most replies result
  as_many most replies later Asked same fits = tt
  as_many most replies later (Ended ending state kept last) same (inl is) = inl (omega (arith, same, is))
  as_many most replies later (Ended ending state kept last) same (inr is) = inr (omega (arith, same, is.0), is.1)

  -- what is wanted
  by_want : (size most : ℕ) (wanted : Want) (state : Counts) (on : Got → Then)
      → ((it : Got) (replies : List Reply) (kept : K) → length replies ≤ size → LeadsOn gives most replies kept (on it state))
      → (replies : List Reply) (kept : K) → length replies ≤ size → LeadsOn gives most replies kept (Asks wanted state on)
  by_want size most wanted state on next replies kept few = go (is_request wanted) refl replies few
    where
      go : (b : Bool) → is_request wanted ≡ b → (left : List Reply) → length left ≤ size → LeadsOn gives most left kept (Asks wanted state on)
      go true is [] few = record { result = Asked; leads = at_request is; fits = tt }
      go true is (reply ∷ left) few =
          let found = next (got.Reply reply) left kept (omega (arith, few)) in
          record {
            result = found.result;
            leads = replied is found.leads;
            fits = fewer most most (reply ∷ left) left found.result (omega arith) found.fits;
          }
      go false is left few =
          let gets = total wanted kept is in
          let found = next gets.0 left gets.1 few in
          record { result = found.result; leads = given gets.0 is gets.2 found.leads; fits = found.fits }

  -- a call, and what comes after it
  by_call : (most : ℕ) (replies : List Reply) (kept : K) (serves : Option ℕ) (called : Job) (state : Counts) (on : OnEnding)
      → LeadsOn gives (left state) replies kept (plan called state)
      → ((ending : Ending) (after : Counts) (new : K) (later : List Reply) → length later ≡ length replies → left after ≤ left state
      → LeadsOn gives most later new (on ending after))
      → ((ending : Ending) (after : Counts) (new : K) (later : List Reply) → length later < length replies
      → LeadsOn gives (left after) later new (on ending after))
      → LeadsOn gives most replies kept (Calls serves called state on)
  by_call most replies kept serves called state on called_on near far = go called_on.result called_on.leads called_on.fits
    where
      go : (result : Result K) → Leads gives replies kept (plan called state) result → Fits (left state) replies result
          → LeadsOn gives most replies kept (Calls serves called state on)
      go Asked leads fits = record { result = Asked; leads = stops leads; fits = tt }
      go (Ended ending after new later) leads (inl less) =
          let found = far ending after new later less in
          record {
            result = found.result;
            leads = returns leads found.leads;
            fits = fewer most (left after) replies later found.result less found.fits;
          }
      go (Ended ending after new later) leads (inr same) =
          let found = near ending after new later same.0 same.1 in
          record { result = found.result; leads = returns leads found.leads; fits = as_many most replies later found.result same.0 found.fits }

  by_plan : (size fuel : ℕ) → Shorter size → Lighter size fuel → (replies : List Reply) (kept : K) (most budget : ℕ) (one : TclPlan)
      → length replies ≤ size → budget ≤ fuel → Comes most budget one → LeadsOn gives most replies kept one
  by_plan size fuel shorter lighter replies kept most budget _ few within (ends {ending = ending} {state = state} low) =
      record { result = Ended ending state kept replies; leads = at_end; fits = inr (refl, low) }
  by_plan size fuel shorter lighter replies kept most budget _ few within (asks {wanted = wanted} {state = state} {on = on} is light) = go replies few
    where
      go : (left_over : List Reply) → length left_over ≤ size → LeadsOn gives most left_over kept (Asks wanted state on)
      go [] few = record { result = Asked; leads = at_request is; fits = tt }
      go (reply ∷ later) few =
          let found = shorter later kept (left state) (8 * left state + 8) (on (got.Reply reply) state) (omega (arith, few))
          (light (got.Reply reply) (left state) (8 * left state + 8) (omega arith) (omega arith)) in
          record {
            result = found.result;
            leads = replied is found.leads;
            fits = fewer most (left state) (reply ∷ later) later found.result (omega arith) found.fits;
          }
  by_plan size fuel shorter lighter replies kept most budget _ few within (wants {wanted = wanted} {state = state} {on = on} light) =
      by_want size most wanted state on
      (λ it later new short. by_plan size fuel shorter lighter later new most budget (on it state) short within (light it)) replies kept few
  by_plan size fuel shorter lighter replies kept most budget _ few within
      (calls {serves = serves} {called = called} {state = state} {on = on} k top low high less light) =
      by_call most replies kept serves called state on
      (lighter replies kept (left state) (8 * left state + rank called) (plan called state) few (omega (arith, less, high, within))
      (tcl_bounded called state (left state) (8 * left state + rank called) (omega arith) (omega arith)))
      (λ ending after new later same fits. by_plan size fuel shorter lighter later new most budget (on ending after) (omega (arith, same, few)) within
      (light ending after most budget (omega (arith, fits, low)) (omega (arith, fits, high))))
      (λ ending after new later short. shorter later new (left after) (8 * left after + 8) (on ending after) (omega (arith, short, few))
      (light ending after (left after) (8 * left after + 8) (omega arith) (omega (arith, top))))
  by_plan size fuel shorter lighter replies kept most budget _ few within (goes {next = next} {state = state} low less) =
      let found = lighter replies kept most (8 * left state + rank next) (plan next state) few (omega (arith, less, within))
      (tcl_bounded next state most (8 * left state + rank next) low (omega arith)) in
      record { result = found.result; leads = over found.leads; fits = found.fits }

  by_fuel : (size : ℕ) → Shorter size → (fuel : ℕ) → Lighter size fuel
  by_fuel size shorter zero replies kept most budget one few within comes = absurd (let no : ⊥ = omega (arith, within) in no)
  by_fuel size shorter (suc fuel) replies kept most budget one few within comes =
      by_plan size fuel shorter (by_fuel size shorter fuel) replies kept most budget one few (omega (arith, within)) comes

  by_size : (size : ℕ) → Shorter size
  by_size zero replies kept most budget one few comes = absurd (let no : ⊥ = omega (arith, few) in no)
  by_size (suc size) replies kept most budget one few comes =
      by_fuel size (by_size size) (suc budget) replies kept most budget one (omega (arith, few)) (omega arith) comes

  -- each job does
  pub leads_on : (replies : List Reply) (kept : K) (first : Job) (state : Counts) → LeadsOn gives (left state) replies kept (plan first state)
  leads_on replies kept first state =
      by_size (suc (length replies)) replies kept (left state) (8 * left state + rank first) (plan first state) (omega arith)
      (tcl_bounded first state (left state) (8 * left state + rank first) (omega arith) (omega arith))
