use Rattle.std.proofs.Common.{◌≡◌, ◌++◌, take}
use Rattle.std.specs.List.{filter_map}
use Rattle.tt_before.specs.Objects.{target_if}
use Rattle.tt_before.proofs.objects.add_target.Given as goal

abbrev pub invariant-loop-post : goal.invariant-loop-post
invariant-loop-post l = l.objects.items ≡ l.fn.objects.items ++ filter_map (target_if l.number) (take l.post-index l.posts)
