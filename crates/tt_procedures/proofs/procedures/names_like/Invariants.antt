use Rattle.std.proofs.Common.{◌≡◌, ◌++◌, drop}
use Rattle.std.specs.List.{filter}
use Rattle.tt_procedures.specs.Procedures.{is_like}
use Rattle.tt_procedures.proofs.procedures.names_like.Given as goal

abbrev pub invariant-loop-name : goal.invariant-loop-name
invariant-loop-name l =
    l.like ++ filter (is_like l.pattern) (drop l.name-index l.names) ≡ filter (is_like l.pattern) l.names
