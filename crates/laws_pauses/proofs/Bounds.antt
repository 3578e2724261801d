-- How much a plan does before its next request: units that are left, and ranks of jobs.
use Rattle.std.proofs.Common.{◌≡◌, ◌≤◌, ◌<◌, ◌+◌, ◌*◌, ◌-◌, ◌%◌, ℕ, nat_le, true, if◌then◌else◌, Option}
use Rattle.laws_pauses.specs.NextRequest.{is_request}
use Rattle.tt_evaluation.specs.Plans.{Asks, Calls, Ends, Goes}
use Rattle.tt_frames.specs.Vocabulary.{OnEnding, TclPlan, Then}
use Rattle.tt_frames.specs.declared.job.Job.{Job}
use Rattle.tt_frames.specs.declared.job.Job.TheVariants as job
use Rattle.tt_frames.specs.declared.state.Counts.{Counts}
use Rattle.tt_frames.specs.declared.state.TheConstants.{STRETCH}
use Rattle.tt_outcomes.specs.declared.ending.Ending.{Ending}
use Rattle.tt_outcomes.specs.declared.got.Got.{Got}
use Rattle.tt_outcomes.specs.declared.want.Want.{Want}

-- the units before the next pause; none past the limit
abbrev pub left : Counts → ℕ
left state = if nat_le state.limit state.units then 0 else STRETCH - state.units % STRETCH

-- Without a unit and without a request, a job calls only those of less rank, or goes over into them.
abbrev pub rank : Job → ℕ
rank (job.Start start) = 1
rank (job.Expression purpose text) = 1
rank (job.Own words) = 3
rank (job.Nested body text) = 1
rank (job.Global text) = 2
rank (job.Turn loop) = 2
rank (job.Event event) = 3
rank (job.Held hold text) = 1
rank other = 0

-- What a plan does within a budget: that of a job is eight for each unit that is left, and its rank. Each job that it
-- calls, or goes over into, has less. After a request the budget is whole again. It ends with no more left than `most`.
pub data Comes : (most budget : ℕ) → TclPlan → Type 0 where
  ends : {most budget : ℕ} {ending : Ending} {state : Counts} → left state ≤ most → Comes most budget (Ends ending state)
  asks : {most budget : ℕ} {wanted : Want} {state : Counts} {on : Got → Then} → is_request wanted ≡ true
      → ((it : Got) (m b : ℕ) → left state ≤ m → 8 * left state + 8 ≤ b → Comes m b (on it state)) → Comes most budget (Asks wanted state on)
  wants : {most budget : ℕ} {wanted : Want} {state : Counts} {on : Got → Then} → ((it : Got) → Comes most budget (on it state))
      → Comes most budget (Asks wanted state on)
  calls : {most budget : ℕ} {serves : Option ℕ} {called : Job} {state : Counts} {on : OnEnding} (k : ℕ) → k ≤ 8 → left state ≤ most
      → 8 * left state + k ≤ budget → rank called < k
      → ((ending : Ending) (after : Counts) (m b : ℕ) → left after ≤ m → 8 * left after + k ≤ b → Comes m b (on ending after))
      → Comes most budget (Calls serves called state on)
  goes : {most budget : ℕ} {next : Job} {state : Counts} → left state ≤ most → 8 * left state + rank next < budget → Comes most budget (Goes next state)
