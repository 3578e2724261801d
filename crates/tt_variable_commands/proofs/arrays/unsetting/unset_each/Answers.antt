use Rattle.std.proofs.Common.{arith, rules}
use Rattle.tt_variable_commands.proofs.Removing.{all_done, one_more}
use Rattle.tt_variable_commands.proofs.arrays.unsetting.unset_each.Goals as goal

pub loop-index-preserved : goal.loop-index-preserved
loop-index-preserved c =
    one_more c.args.name.now c.args.indices.now c.loop-index.index-index c.index-item.result c.args.store.now c.loop-index.store c.unset_one.new.store
    (omega arith) c.index-item.is c.loop-index.invariant (search rules)

pub returns : goal.returns
returns c =
    all_done c.args.name.now c.args.indices.now c.loop-index.index-index c.args.store.now c.loop-index.store
    (omega arith) c.loop-index.invariant
