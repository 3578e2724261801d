use Rattle.std.proofs.Common.{◌≡◌, ◌++◌, replicate}
use Rattle.tt_format.proofs.layout.repeat.Given as goal

abbrev pub invariant-loop : goal.invariant-loop
invariant-loop l = l.made.items ≡ l.fn.made.items ++ replicate l.counter l.byte
