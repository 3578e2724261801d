use Rattle.tt_waits.specs.inside.Places.{AreOnDiagonal}
use Rattle.tt_waits.proofs.circles.on_diagonal.Given as goal

abbrev pub invariant-loop-place : goal.invariant-loop-place
invariant-loop-place l = AreOnDiagonal l.threads l.rows l.place l.found.items
