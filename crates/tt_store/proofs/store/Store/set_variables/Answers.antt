use Rattle.std.proofs.Common.{arith, rules}
use Rattle.tt_store.proofs.Setting.{all_done, one_more}
use Rattle.tt_store.proofs.store.Store.set_variables.Goals as goal

pub loop-argument-preserved : goal.loop-argument-preserved
loop-argument-preserved c =
    one_more c.args.arguments.now c.loop-argument.argument-index c.argument-item.result c.in_ok-set_one.field-0 c.args.self.now c.loop-argument.self c.set_one.new.self
    (omega arith) c.argument-item.is c.loop-argument.invariant (search rules)

pub returns : goal.returns
returns c = record {
  set = all_done c.args.arguments.now c.loop-argument.argument-index c.args.self.now c.loop-argument.self
      (omega arith) c.loop-argument.invariant;
}
