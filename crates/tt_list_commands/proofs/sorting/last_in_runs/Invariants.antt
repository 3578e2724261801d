use Rattle.std.proofs.Common.{◌≡◌, ◌++◌, length}
use Rattle.tt_list_commands.specs.inside.Runs.{last_in_runs}
use Rattle.tt_list_commands.proofs.sorting.last_in_runs.Given as goal

abbrev pub invariant-loop-rest : goal.invariant-loop-rest
invariant-loop-rest l = last_in_runs l.how l.sorted ≡ l.last ++ last_in_runs l.how l.rest

abbrev pub decreases-loop-rest : goal.decreases-loop-rest
decreases-loop-rest l = length l.rest
