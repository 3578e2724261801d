use Rattle.std.proofs.Common.{arith, rules}
use Rattle.tt_store.proofs.Frequent.{incr_one, single}
use Rattle.tt_store.proofs.store.Store.incr_often.Goals as goal

pub returns-in-len1-clause-run : goal.returns-in-len1-clause-run
returns-in-len1-clause-run c =
    incr_one c.increase.result c.args.words.now c.args.self.now c.increase.new.self c.name-item.result
    (single c.args.words.now c.name-item.result (omega (arith, c.in-len1.len_at_least)) (omega (arith, c.in-len1.len_below)) c.name-item.is)
    (search rules)
