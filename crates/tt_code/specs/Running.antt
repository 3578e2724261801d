-- What code needs from where it stands.
use Rattle.std.specs.Prelude.{[], ◌∷◌, Some, None}
use Rattle.std.specs.Arc.{arc_value}
use Rattle.tt_code.specs.Code.{needs_from}
use Rattle.tt_code.specs.Needs.{Needs, Variable, Script, Refused, Values, Use}
use Rattle.tt_code.specs.declared.running.Running.{Running}
use Rattle.tt_code.specs.declared.steps.Halt.{Halt}
use Rattle.tt_code.specs.declared.steps.Halt.TheVariants as halts

-- what running code needs
abbrev pub needs : Running → Needs
needs running = needs_from (arc_value running.code).instructions.items running.place running.values

-- what it needs once it is given a value
abbrev pub with_value : Running → Use
with_value running value = needs_from (arc_value running.code).instructions.items running.place (value ∷ running.values)

-- what is needed where code halts
abbrev pub halt_needs : Halt → Use → Needs
halt_needs (halts.Variable name) go = Variable name None go
halt_needs (halts.Element name index) go = Variable name (Some index) go
halt_needs (halts.Script text) go = Script text go
halt_needs (halts.Refused message) go = Refused message
halt_needs (halts.Value value) go = Values (value ∷ [])
halt_needs (halts.Values values) go = Values values.items
