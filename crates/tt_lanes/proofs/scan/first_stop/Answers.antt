use Rattle.std.proofs.Common.{arith, ◌∙◌}
use Rattle.tt_lanes.proofs.LoopLemmas.{block_stops, block_passes}
use Rattle.tt_lanes.proofs.scan.first_stop.Goals as goal

pub returns-then-run-lt-LANES : goal.returns-then-run-lt-LANES
returns-then-run-lt-LANES g c =
    let stops = block_stops g.S.Stop.is_stop c.args.bytes.now c.loop-at.at 16 c.run-run.result (omega arith) c.run-run.ensures (omega arith) in
    omega (arith, stops, c.loop-at.invariant.same)

pub loop-at-preserved : goal.loop-at-preserved
loop-at-preserved g c =
    let passes = block_passes g.S.Stop.is_stop c.args.bytes.now c.loop-at.at 16 c.run-run.result (omega arith) c.run-run.ensures (omega arith) in
    record { within = omega arith; same = c.loop-at.invariant.same ∙ passes }
