use Rattle.std.proofs.Common.{length, ◌≡◌}
use Rattle.tt_pool_commands.specs.Pools.{are_settings}
use Rattle.tt_pool_commands.proofs.making.are_settings.Given as goal

abbrev pub invariant-loop-rest : goal.invariant-loop-rest
invariant-loop-rest l = are_settings l.words ≡ are_settings l.rest

abbrev pub decreases-loop-rest : goal.decreases-loop-rest
decreases-loop-rest l = length l.rest
