use Rattle.std.proofs.Common.{rules}
use Rattle.tt_store.proofs.Frequent.{increased_as}
use Rattle.tt_store.proofs.store.Store.increase.Goals as goal

pub returns-then-write_scalar-clause-some : goal.returns-then-write_scalar-clause-some
returns-then-write_scalar-clause-some c =
    increased_as c.args.self.now c.write_scalar.new.self c.args.name.now c.in_ok-name.name.now c.in-Ok.value.now c.from_whole.result
    c.from_whole-then-write_scalar.result c.in_ok-number.number c.args.step c.in-Ok-binary.sum (search rules) (search rules) (search rules)
    (search rules) (search rules) (search rules) (search rules) (search rules) (search rules) (search rules) (search rules)
