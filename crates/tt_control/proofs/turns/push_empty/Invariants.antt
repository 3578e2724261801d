use Rattle.std.proofs.Common.{◌≡◌, ◌++◌, [], replicate}
use Rattle.tt_control.proofs.turns.push_empty.Given as goal

abbrev pub invariant-loop : goal.invariant-loop
invariant-loop l = l.all ≡ l.initial.all ++ replicate l.counter []
