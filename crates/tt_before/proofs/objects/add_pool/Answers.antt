use Rattle.std.proofs.Common.{◌∙◌, ◌++◌, ap}
use Rattle.std.specs.Option.{option_to_list}
use Rattle.tt_before.specs.Objects.{pool_if}
use Rattle.tt_before.proofs.Lists.{one_more}
use Rattle.tt_before.proofs.objects.add_pool.Goals as goal

pub loop-worker-preserved : goal.loop-worker-preserved
loop-worker-preserved c =
    one_more (pool_if c.args.thread) c.args.workers.now c.loop-worker.worker-index c.worker-item.result c.args.objects.now.items c.loop-worker.objects.items
    c.add_some.new.objects.items c.loop-worker-test.true c.loop-worker.invariant
    (c.in_ok-add_some.ensures ∙ ap (λ o. c.loop-worker.objects.items ++ option_to_list o) (c.in_ok-pool_if.ensures
    ∙ ap (pool_if c.args.thread) c.worker-item.is))
