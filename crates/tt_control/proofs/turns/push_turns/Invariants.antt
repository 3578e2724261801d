use Rattle.std.proofs.Common.{◌≡◌, ◌++◌}
use Rattle.tt_control.specs.Turns.{first_turns}
use Rattle.tt_control.proofs.turns.push_turns.Given as goal

abbrev pub invariant-loop-turn : goal.invariant-loop-turn
invariant-loop-turn l = l.all ≡ l.initial.all ++ first_turns l.columns l.turn
