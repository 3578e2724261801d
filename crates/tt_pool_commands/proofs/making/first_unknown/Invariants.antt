use Rattle.std.proofs.Common.{length, ◌≡◌}
use Rattle.tt_pool_commands.specs.Pools.{first_unknown}
use Rattle.tt_pool_commands.proofs.making.first_unknown.Given as goal

abbrev pub invariant-loop-rest : goal.invariant-loop-rest
invariant-loop-rest l = first_unknown l.words ≡ first_unknown l.rest

abbrev pub decreases-loop-rest : goal.decreases-loop-rest
decreases-loop-rest l = length l.rest
