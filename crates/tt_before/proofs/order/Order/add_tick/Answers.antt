use Rattle.std.proofs.Common.{refl}
use Rattle.tt_before.proofs.Telling.{order_tick}
use Rattle.tt_before.proofs.order.Order.add_tick.Goals as goal

pub returns-clause-added : goal.returns-clause-added
returns-clause-added c = λ entries is. order_tick entries c.args.self.now _ is refl refl refl refl
