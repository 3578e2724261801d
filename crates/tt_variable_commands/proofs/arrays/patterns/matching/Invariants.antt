use Rattle.std.proofs.Common.{◌≡◌, ◌++◌, drop, filter}
use Rattle.tt_variable_commands.specs.ArrayReading.{is_like}
use Rattle.tt_variable_commands.proofs.arrays.patterns.matching.Given as goal

abbrev pub invariant-loop-name : goal.invariant-loop-name
invariant-loop-name l = l.like ++ filter (is_like l.pattern) (drop l.name-index l.names) ≡ filter (is_like l.pattern) l.names
