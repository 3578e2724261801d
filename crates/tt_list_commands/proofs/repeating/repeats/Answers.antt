use Rattle.std.proofs.Common.{◌∙◌, ◌++◌, ap}
use Rattle.tt_list_commands.proofs.Repeats.{once_more}
use Rattle.tt_list_commands.proofs.repeating.repeats.Goals as goal

pub loop-preserved : goal.loop-preserved
loop-preserved c =
    c.in_ok-push_copies.ensures.pushed ∙ ap (λ all. all ++ c.args.values.now) c.loop.invariant
    ∙ once_more c.loop.counter c.args.values.now
