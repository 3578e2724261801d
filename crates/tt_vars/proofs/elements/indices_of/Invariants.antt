use Rattle.std.proofs.Common.{◌≡◌, take}
use Rattle.std.specs.Map.{keys_of}
use Rattle.tt_vars.specs.inside.Slots.{elements_in}
use Rattle.tt_vars.proofs.elements.indices_of.Given as goal

abbrev pub invariant-loop-slot : goal.invariant-loop-slot
invariant-loop-slot l = l.indices ≡ keys_of (elements_in (take l.slot-index l.slots))
