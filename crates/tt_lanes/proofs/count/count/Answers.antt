use Rattle.std.proofs.Common.{arith}
use Rattle.tt_lanes.proofs.LoopLemmas.{block_counted, rest_counted}
use Rattle.tt_lanes.proofs.count.count.Goals as goal

pub loop-at-preserved : goal.loop-at-preserved
loop-at-preserved g c = record {
  within = omega arith;
  counted = block_counted g.C.Counted.is_counted c.args.bytes.now c.loop-at.at 64 c.loop-at.count c.count.result c.loop-at.invariant.counted c.count.ensures;
}

pub returns-clause-value : goal.returns-clause-value
returns-clause-value g c =
    rest_counted g.C.Counted.is_counted c.args.bytes.now c.loop-at.at c.loop-at.count c.plain_count.result c.loop-at.invariant.counted c.plain_count.ensures.value
