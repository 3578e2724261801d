use Rattle.std.proofs.Common.{arith, rules}
use Rattle.tt_list_commands.proofs.Keeping.{keeps_more}
use Rattle.tt_list_commands.proofs.concatenating.kept_texts.Goals as goal

pub loop-text-preserved : goal.loop-text-preserved
loop-text-preserved c =
    keeps_more c.args.texts.now c.loop-text.text-index c.text-item.result c.trimmed.result.now c.loop-text.kept c.keep.new.kept
    (omega arith) c.text-item.is (search rules) c.loop-text.invariant (search rules)
