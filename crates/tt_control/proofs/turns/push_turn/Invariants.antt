use Rattle.std.proofs.Common.{◌≡◌, ◌++◌, take}
use Rattle.std.specs.List.{flat_map}
use Rattle.tt_control.specs.Turns.{turn_values}
use Rattle.tt_control.proofs.turns.push_turn.Given as goal

abbrev pub invariant-loop-column : goal.invariant-loop-column
invariant-loop-column l = l.all ≡ l.initial.all ++ flat_map (turn_values l.turn) (take l.column-index l.columns)
