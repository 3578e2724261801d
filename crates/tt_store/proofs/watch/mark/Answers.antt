use Rattle.std.proofs.Common.{arith, rules}
use Rattle.tt_store.specs.Spots.{place_in}
use Rattle.tt_store.proofs.Marking.{all_done, one_more}
use Rattle.tt_store.proofs.watch.mark.Goals as goal

pub loop-watch-preserved : goal.loop-watch-preserved
loop-watch-preserved c =
    one_more c.args.nesting.now.frames
    (place_in c.args.nesting.now.current c.args.spot.now) c.loop-watch.watch-index c.args.watches.now c.loop-watch.watch-items
    c.watch-item.result c.mark_one.new.watch c.loop-watch.invariant (omega arith) c.watch-item.is (search rules)

pub returns : goal.returns
returns c =
    all_done c.args.nesting.now.frames
    (place_in c.args.nesting.now.current c.args.spot.now) c.loop-watch.watch-index c.args.watches.now c.loop-watch.watch-items
    (omega arith) c.loop-watch.invariant
