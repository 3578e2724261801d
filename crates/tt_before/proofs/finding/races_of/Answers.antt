use Rattle.tt_before.specs.inside.Found.{races_up_to}
use Rattle.tt_before.proofs.RaceCounts.{next_row}
use Rattle.tt_before.proofs.finding.races_of.Goals as goal

pub loop-place-preserved : goal.loop-place-preserved
loop-place-preserved c =
    next_row c.args.touches.now c.loop-place.place c.index-touches-place.result c.find_with.new.races c.loop-place-test.true c.index-touches-place.is
    (c.in_ok-find_with.ensures (races_up_to c.args.touches.now c.loop-place.place) c.loop-place.invariant)
