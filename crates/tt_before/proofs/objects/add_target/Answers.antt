use Rattle.std.proofs.Common.{◌∙◌, ◌++◌, ap}
use Rattle.std.specs.Option.{option_to_list}
use Rattle.tt_before.specs.Objects.{target_if}
use Rattle.tt_before.proofs.Lists.{one_more}
use Rattle.tt_before.proofs.objects.add_target.Goals as goal

pub loop-post-preserved : goal.loop-post-preserved
loop-post-preserved c =
    one_more (target_if c.args.number) c.args.posts.now c.loop-post.post-index _ c.args.objects.now.items c.loop-post.objects.items
    c.add_some.new.objects.items c.loop-post-test.true c.loop-post.invariant
    (c.in_ok-add_some.ensures ∙ ap (λ o. c.loop-post.objects.items ++ option_to_list o) c.target_if.ensures)
