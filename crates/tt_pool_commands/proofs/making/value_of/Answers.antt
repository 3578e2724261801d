use Rattle.std.proofs.Common.{◌∙◌, rules}
use Rattle.tt_pool_commands.proofs.Pairs.{setting_read}
use Rattle.tt_pool_commands.proofs.making.value_of.Goals as goal

pub loop-rest-preserved : goal.loop-rest-preserved
loop-rest-preserved c =
    c.loop-rest.invariant ∙
    setting_read c.args.setting c.loop-rest.value.now c.as_bytes.result.now c.as_bytes-in-len2-up.result.now
    c.newer-value.result.now c.loop-rest.rest.now
    c.in-len2-up.len_at_least (search rules) (search rules) (search rules)
