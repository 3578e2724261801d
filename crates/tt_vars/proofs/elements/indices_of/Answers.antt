use Rattle.std.proofs.Common.{arith, rules}
use Rattle.tt_vars.proofs.SlotLemmas.{indices-more}
use Rattle.tt_vars.proofs.elements.indices_of.Goals as goal

pub loop-slot-preserved : goal.loop-slot-preserved
loop-slot-preserved c =
    indices-more c.args.slots.now c.loop-slot.slot-index c.slot-item.result c.loop-slot.indices c.push_index.new.indices
    (omega arith) c.slot-item.is c.loop-slot.invariant (search rules)
