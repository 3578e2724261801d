use Rattle.std.proofs.Common.{rules}
use Rattle.tt_variable_commands.proofs.Writing.{all_done, one_fails, one_more}
use Rattle.tt_variable_commands.proofs.arrays.setting.set_each.Goals as goal

pub returns-in-Some-2 : goal.returns-in-Some-2
returns-in-Some-2 c =
    one_fails c.args.name.now c.pairs.left.now c.in-Some.index.now c.in-Some.text.now c.in-Some.later.now c.args.items.now c.in-Some-2.message
    c.args.store.now c.pairs.store c.set_one.new.store
    (search rules) c.pairs.invariant (search rules)

pub pairs-preserved : goal.pairs-preserved
pairs-preserved c =
    one_more c.args.name.now c.pairs.left.now c.in-Some.index.now c.in-Some.text.now c.in-Some.later.now c.args.items.now
    c.args.store.now c.pairs.store c.set_one.new.store
    (search rules) c.pairs.invariant (search rules)

pub returns : goal.returns
returns c =
    all_done c.args.name.now c.pairs.left.now c.args.items.now c.args.store.now c.pairs.store
    (search rules) c.pairs.invariant
