use Rattle.tt_store.specs.Spots.{place_in}
use Rattle.tt_store.proofs.Marking.{MarkedUpTo}
use Rattle.tt_store.proofs.watch.mark.Given as goal

abbrev pub invariant-loop-watch : goal.invariant-loop-watch
invariant-loop-watch l =
    MarkedUpTo l.nesting.frames (place_in l.nesting.current l.spot) l.watch-index l.fn.watches l.watch-items
