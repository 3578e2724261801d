use Rattle.std.proofs.Common.{◌≡◌, ◌++◌, drop}
use Rattle.tt_tsv.specs.Calls.{names_like}
use Rattle.tt_tsv.proofs.telling.names_like.Given as goal

abbrev pub invariant-loop-name : goal.invariant-loop-name
invariant-loop-name l = l.like ++ names_like l.pattern (drop l.name-index l.names) ≡ names_like l.pattern l.names
