use Rattle.std.proofs.Common.{◌∙◌, rules}
use Rattle.std.specs.Option.{option_copied}
use Rattle.tt_lock_commands.proofs.Pairs.{lock_read}
use Rattle.tt_lock_commands.proofs.holding.eval.Goals as goal

pub loop-rest-preserved : goal.loop-rest-preserved
loop-rest-preserved c =
    c.loop-rest.invariant ∙
    lock_read (option_copied c.loop-rest.id) _ c.as_bytes.result.now c.next-item.result c.loop-rest.rest.now
    c.in-len2-up.len_at_least (search rules) (search rules) (search rules)
