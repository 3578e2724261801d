-- Units: each command, each turn of a loop and each event that is asked for spends one of those that a thread may
-- spend; after each stretch of them it pauses.
use Rattle.std.specs.Prelude.{ℕ, ◌+◌, ◌%◌, ◌==◌, nat_le, false, if◌then◌else◌, List, codes}
use Rattle.tt_calls.specs.declared.request.Request.TheVariants.{Pause}
use Rattle.tt_evaluation.specs.Plans.{Asks}
use Rattle.tt_outcomes.specs.declared.want.Want.TheVariants.{Ask}
use Rattle.tt_frames.specs.Vocabulary.{TclPlan, Then}
use Rattle.tt_frames.specs.declared.state.Counts.{Counts}
use Rattle.tt_frames.specs.declared.state.TheConstants.{STRETCH}
use Rattle.tt_frames.specs.declared.state.Unit.{Unit}
use Rattle.tt_frames.specs.declared.state.Unit.TheVariants.{Past, Pauses, Spent}

-- what a thread counts at its start
abbrev pub fresh : (me limit : ℕ) → Counts
fresh me limit = record { me = me; limit = limit; units = 0; nested = 0; stopped = false }

-- what the next unit comes to
abbrev pub unit_of : Counts → Unit
unit_of state =
    if nat_le state.limit state.units then Past else
    if (state.units + 1) % STRETCH == 0 then Pauses else Spent

-- the state after it; past the limit the count stays
abbrev pub counts_after_unit : Counts → Counts
counts_after_unit state =
    if nat_le state.limit state.units then state else record state { units = state.units + 1 }

-- the error past the limit
abbrev pub past_limit : List ℕ
past_limit = codes "unit limit reached"

-- a unit is spent, after a pause if a stretch is full; or there is none left
abbrev pub by_unit : Unit → Counts → (go past : Then) → TclPlan
by_unit Past state go past = past state
by_unit Pauses state go past = Asks (Ask Pause) state (λ got st. go st)
by_unit Spent state go past = go state

abbrev pub spending : (go past : Then) → Then
spending go past state = by_unit (unit_of state) (counts_after_unit state) go past
