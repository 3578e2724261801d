use Rattle.std.proofs.Common.{◌∙◌, refl}
use Rattle.tt_waits.specs.inside.Marks.{IsMarked}
use Rattle.tt_waits.proofs.Passing.{without_stops, one_stop_more}
use Rattle.tt_waits.proofs.closing.close.Goals as goal

pub loop-stop-init : goal.loop-stop-init
loop-stop-init c = record { same_count = refl; so_far = without_stops (IsMarked c.args.rows.now) }

pub loop-stop-preserved : goal.loop-stop-preserved
loop-stop-preserved c = record {
  same_count = c.pass_over.ensures.count ∙ c.loop-stop.invariant.same_count;
  so_far = one_stop_more (IsMarked c.args.rows.now) (IsMarked c.loop-stop.rows) (IsMarked c.pass_over.new.rows) c.loop-stop.stop
      c.loop-stop.invariant.so_far c.pass_over.ensures.marks;
}
