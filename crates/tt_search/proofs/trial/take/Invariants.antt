use Rattle.std.proofs.Common.{◌≤◌, length}
use Rattle.tt_search.proofs.trial.take.Given as goal

abbrev pub invariant-loop : goal.invariant-loop
invariant-loop g l = length l.system.desk.schedule ≤ l.counter
