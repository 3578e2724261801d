use Rattle.std.proofs.Common.{arith, rules}
use Rattle.tt_variable_commands.proofs.Getting.{all_done, one_more}
use Rattle.tt_variable_commands.proofs.arrays.reading.pairs_of.Goals as goal

pub loop-index-preserved : goal.loop-index-preserved
loop-index-preserved c =
    one_more c.args.store.now c.args.name.now c.args.indices.now c.loop-index.index-index c.index-item.result c.loop-index.items c.add_pair.new.items
    (omega arith) c.index-item.is c.loop-index.invariant (search rules)

pub returns : goal.returns
returns c =
    all_done c.args.store.now c.args.name.now c.args.indices.now c.loop-index.index-index c.loop-index.items
    (omega arith) c.loop-index.invariant
