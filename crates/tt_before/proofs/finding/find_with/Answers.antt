use Rattle.std.proofs.Common.{◌++◌, take}
use Rattle.std.specs.List.{filter_map}
use Rattle.tt_before.specs.inside.Found.{race_with}
use Rattle.tt_before.proofs.RaceCounts.{with_more}
use Rattle.tt_before.proofs.finding.find_with.Goals as goal

pub loop-first-preserved : goal.loop-first-preserved
loop-first-preserved c = λ all counted.
    with_more all c.args.firsts.now c.loop-first.first-index c.first-item.result c.args.second.now c.find.new.races c.loop-first-test.true c.first-item.is
    (c.in_ok-find.ensures (all ++ filter_map (race_with c.args.second.now) (take c.loop-first.first-index c.args.firsts.now))
    (c.loop-first.invariant all counted))
