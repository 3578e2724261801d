use Rattle.std.proofs.Common.{rules}
use Rattle.tt_text.proofs.NarrowLemmas.{one_byte_each}
use Rattle.tt_text.proofs.text.Text.is_narrow.Goals as goal

pub returns-in-Short-clause-one_byte_each : goal.returns-in-Short-clause-one_byte_each
returns-in-Short-clause-one_byte_each c = one_byte_each c.args.self.now c.is_narrow.result (search rules)

pub returns-in-Long-clause-one_byte_each : goal.returns-in-Long-clause-one_byte_each
returns-in-Long-clause-one_byte_each c = one_byte_each c.args.self.now c.is_narrow-in-Long.result (search rules)
