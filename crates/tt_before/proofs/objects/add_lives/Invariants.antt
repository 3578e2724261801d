use Rattle.std.proofs.Common.{◌≡◌, ◌++◌}
use Rattle.tt_before.specs.Objects.{lives_from}
use Rattle.tt_before.proofs.objects.add_lives.Given as goal

abbrev pub invariant-loop-more : goal.invariant-loop-more
invariant-loop-more l = l.objects.items ≡ l.fn.objects.items ++ lives_from l.first l.more
