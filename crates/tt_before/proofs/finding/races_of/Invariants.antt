use Rattle.tt_before.specs.inside.Found.{AreCounted, races_up_to}
use Rattle.tt_before.proofs.finding.races_of.Given as goal

abbrev pub invariant-loop-place : goal.invariant-loop-place
invariant-loop-place l = AreCounted (races_up_to l.touches l.place) l.races
