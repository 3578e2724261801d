use Rattle.std.proofs.Common.{arith, rules}
use Rattle.tt_vars.proofs.SlotLemmas.{copied-more}
use Rattle.tt_vars.proofs.elements.copied.Goals as goal

pub loop-slot-preserved : goal.loop-slot-preserved
loop-slot-preserved c =
    copied-more c.args.slots.now c.loop-slot.slot-index c.slot-item.result c.loop-slot.elements c.put_copy.new.elements
    c.requires (omega arith) c.slot-item.is c.loop-slot.invariant (search rules)
