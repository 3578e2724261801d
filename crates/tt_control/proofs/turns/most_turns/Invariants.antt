use Rattle.std.proofs.Common.{◌≡◌, take}
use Rattle.tt_control.specs.Turns.{most_turns}
use Rattle.tt_control.proofs.turns.most_turns.Given as goal

abbrev pub invariant-loop-column : goal.invariant-loop-column
invariant-loop-column l = l.most ≡ most_turns (take l.column-index l.columns)
