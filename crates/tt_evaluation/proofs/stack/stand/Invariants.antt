use Rattle.std.proofs.Common.{◌≡◌}
use Rattle.tt_evaluation.specs.inside.Moves.{from_move, weight}
use Rattle.tt_evaluation.proofs.stack.stand.Given as goal

abbrev pub invariant-moves : goal.invariant-moves
invariant-moves g l =
    (answers : _) →
    from_move g.L.Language.plan g.L.Language.after g.L.Language.on_got l.step l.calls.items l.state l.steps answers ≡ from_move g.L.Language.plan g.L.Language.after g.L.Language.on_got l.fn.first l.fn.calls.items l.fn.state l.fn.steps answers

abbrev pub decreases-moves : goal.decreases-moves
decreases-moves g l = weight l.step l.calls.items l.steps
