use Rattle.std.proofs.Common.{◌∙◌, rules}
use Rattle.tt_control.proofs.Pairs.{code_read}
use Rattle.tt_control.proofs.endings.last_code.Goals as goal

pub loop-rest-preserved : goal.loop-rest-preserved
loop-rest-preserved c =
    c.loop-rest.invariant ∙
    code_read c.loop-rest.last.now c.as_bytes.result.now c.as_bytes-last.result.now c.loop-rest.rest.now
    c.in-len2-up.len_at_least (search rules) (search rules) (search rules)
