use Rattle.std.proofs.Common.{arith, rules}
use Rattle.tt_store.proofs.Unsetting.{all_done, one_fails, one_more}
use Rattle.tt_store.proofs.store.Store.unset_each.Goals as goal

pub returns-in-Some : goal.returns-in-Some
returns-in-Some c =
    one_fails c.args.nocomplain c.args.names.now c.loop-name.name-index c.name-item.result c.in-Some.message c.args.self.now c.loop-name.self c.unset_one.new.self
    (omega arith) c.name-item.is c.loop-name.invariant (search rules)

pub loop-name-preserved : goal.loop-name-preserved
loop-name-preserved c =
    one_more c.args.nocomplain c.args.names.now c.loop-name.name-index c.name-item.result c.args.self.now c.loop-name.self c.unset_one.new.self
    (omega arith) c.name-item.is c.loop-name.invariant (search rules)

pub returns : goal.returns
returns c =
    all_done c.args.nocomplain c.args.names.now c.loop-name.name-index c.args.self.now c.loop-name.self
    (omega arith) c.loop-name.invariant
