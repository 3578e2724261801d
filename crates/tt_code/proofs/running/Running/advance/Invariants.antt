use Rattle.std.proofs.Common.{◌≡◌, ◌-◌, length}
use Rattle.std.specs.Arc.{arc_value}
use Rattle.tt_code.specs.Running.{needs}
use Rattle.tt_code.proofs.running.Running.advance.Given as goal

abbrev pub invariant-steps : goal.invariant-steps
invariant-steps l = needs l.self ≡ needs l.fn.self

abbrev pub decreases-steps : goal.decreases-steps
decreases-steps l = length (arc_value l.self.code).instructions.items - l.self.place
