use Rattle.std.proofs.Common.{length, ◌≡◌}
use Rattle.tt_pool_commands.specs.Pools.{last_value, value_of}
use Rattle.tt_pool_commands.proofs.making.value_of.Given as goal

abbrev pub invariant-loop-rest : goal.invariant-loop-rest
invariant-loop-rest l = value_of l.setting l.words ≡ last_value l.setting l.value l.rest

abbrev pub decreases-loop-rest : goal.decreases-loop-rest
decreases-loop-rest l = length l.rest
