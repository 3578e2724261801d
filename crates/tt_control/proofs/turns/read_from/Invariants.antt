use Rattle.std.proofs.Common.{[], length, ◌≡◌}
use Rattle.tt_control.specs.Refusals.{wrong_number}
use Rattle.tt_control.specs.Turns.{columns_from}
use Rattle.tt_control.proofs.turns.read_from.Given as goal

abbrev pub invariant-loop-rest : goal.invariant-loop-rest
invariant-loop-rest l =
    columns_from (wrong_number l.usage) [] l.words ≡ columns_from (wrong_number l.usage) l.columns.items l.rest

abbrev pub decreases-loop-rest : goal.decreases-loop-rest
decreases-loop-rest l = length l.rest
