use Rattle.std.proofs.Common.{rules}
use Rattle.std.specs.Option.{option_copied}
use Rattle.tt_store.proofs.Frequent.{copy_read}
use Rattle.tt_store.proofs.store.Store.value.Goals as goal

pub returns : goal.returns
returns c = record {
  read = copy_read c.args.self.now c.args.name.now (option_copied c.args.index) c.copy_of.result c.in-Ok.value.now (search rules)
      (search rules) (search rules);
}
