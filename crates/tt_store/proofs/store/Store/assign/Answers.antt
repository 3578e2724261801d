use Rattle.std.proofs.Common.{arith, rules}
use Rattle.tt_store.proofs.Assigning.{all_done, one_fails, one_more}
use Rattle.tt_store.proofs.store.Store.assign.Goals as goal

pub returns-in-Some : goal.returns-in-Some
returns-in-Some c =
    one_fails c.args.names.now c.loop-name.name-index c.name-item.result c.in_ok-item.item c.loop-name.left.now c.args.items.now c.in-Some.message
    c.args.self.now c.loop-name.self c.assign_one.new.self
    (omega arith) c.name-item.is (search rules) c.loop-name.invariant (search rules)

pub loop-name-preserved : goal.loop-name-preserved
loop-name-preserved c =
    one_more c.args.names.now c.loop-name.name-index c.name-item.result c.in_ok-item.item c.loop-name.left.now c.in_ok-item.rest.now c.args.items.now
    c.args.self.now c.loop-name.self c.assign_one.new.self
    (omega arith) c.name-item.is (search rules) (search rules) c.loop-name.invariant (search rules)

pub returns : goal.returns
returns c =
    all_done c.args.names.now c.loop-name.name-index c.loop-name.left.now c.args.items.now c.args.self.now c.loop-name.self
    (omega arith) c.loop-name.invariant
