-- The plain form of what waits while tokens are read.
use Rattle.std.specs.Prelude.{List, map, reverse}
use Rattle.tt_exprs.specs.Plain.{plain_expr}
use Rattle.tt_exprs.specs.Parsing.{PlainValue, nested, too_deep, PlainRow, row, too_deep_row, PlainPending, unary}
use Rattle.tt_exprs.specs.Parsing.{binary, test, branch, parenthesis, arguments, PlainWaiting, PlainState, wants, calls}
use Rattle.tt_exprs.specs.Parsing.{has, wrong, PlainOutcome, good, malformed, nested_too_deeply}
use Rattle.tt_exprs.specs.inside.Cutting.{PlainReading, whole, refused_at, stopped_here}
use Rattle.tt_exprs.specs.declared.reading.Reading.{Reading}
use Rattle.tt_exprs.specs.declared.reading.Reading.TheVariants as readings
use Rattle.tt_exprs.specs.declared.values.Value.{Value}
use Rattle.tt_exprs.specs.declared.values.Value.TheVariants as values
use Rattle.tt_exprs.specs.declared.values.Row.{Row}
use Rattle.tt_exprs.specs.declared.values.Row.TheVariants as rows
use Rattle.tt_exprs.specs.declared.pending.Pending.{Pending}
use Rattle.tt_exprs.specs.declared.pending.Pending.TheVariants as pendings
use Rattle.tt_exprs.specs.declared.climbing.State.{State}
use Rattle.tt_exprs.specs.declared.climbing.Phase.{Phase}
use Rattle.tt_exprs.specs.declared.climbing.Phase.TheVariants as phases
use Rattle.tt_exprs.specs.declared.climbing.Outcome.{Outcome}
use Rattle.tt_exprs.specs.declared.climbing.Outcome.TheVariants as outcomes

abbrev pub plain_value : Value → PlainValue
plain_value (values.Nested expr depth) = nested (plain_expr expr) depth
plain_value values.TooDeep = too_deep

abbrev pub plain_row : Row → PlainRow
plain_row (rows.Operands exprs deepest) = row (map plain_expr exprs.items) deepest
plain_row rows.TooDeep = too_deep_row

abbrev pub plain_pending : Pending → PlainPending
plain_pending (pendings.Unary op) = unary op
plain_pending (pendings.Binary op left) = binary op (plain_value left)
plain_pending (pendings.Test condition) = test (plain_value condition)
plain_pending (pendings.Branch condition chosen) = branch (plain_value condition) (plain_value chosen)
plain_pending pendings.Parenthesis = parenthesis
plain_pending (pendings.Arguments op operands) = arguments op (plain_row operands)

-- the innermost, which a vector has last, first
abbrev pub plain_stack : List Pending → List PlainPending
plain_stack pending = reverse (map plain_pending pending)

abbrev pub plain_waiting : List Pending → Value → PlainWaiting
plain_waiting pending value = record { pending = plain_stack pending; value = plain_value value }

-- what waits, by what comes next
abbrev pub plain_phase : List Pending → Phase → PlainState
plain_phase pending phases.Wants = wants (plain_stack pending)
plain_phase pending (phases.Calls op) = calls op (plain_stack pending)
plain_phase pending (phases.Has value) = has (plain_waiting pending value)
plain_phase pending phases.Wrong = wrong

abbrev pub plain_state : State → PlainState
plain_state state = plain_phase state.pending.items state.phase

abbrev pub plain_outcome : Outcome → PlainOutcome
plain_outcome (outcomes.Good expr) = good (plain_expr expr)
plain_outcome outcomes.Malformed = malformed
plain_outcome outcomes.NestedTooDeeply = nested_too_deeply

abbrev pub plain_reading : Reading → PlainReading
plain_reading (readings.Whole outcome) = whole (plain_outcome outcome)
plain_reading (readings.RefusedAt word) = refused_at word
plain_reading readings.StoppedHere = stopped_here
