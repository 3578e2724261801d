use Rattle.std.proofs.Common.{◌≡◌, take}
use Rattle.tt_vars.specs.inside.Slots.{elements_in}
use Rattle.tt_vars.proofs.elements.copied.Given as goal

abbrev pub invariant-loop-slot : goal.invariant-loop-slot
invariant-loop-slot l = l.elements ≡ elements_in (take l.slot-index l.slots)
