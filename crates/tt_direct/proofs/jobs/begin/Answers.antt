use Rattle.std.proofs.Common.{refl}
use Rattle.tt_frames.specs.Tcl.{plan}
use Rattle.tt_direct.proofs.Staying.{lands_at}
use Rattle.tt_direct.proofs.jobs.begin.Goals as goal

pub returns : goal.returns
returns c =
    let old = c.args.stack.now in
    record {
      leads = lands_at c.evaluate.new.kept c.args.kept.now c.in_ok-came.came c.into_next.result (plan c.args.job) (plan c.args.job old.state)
          c.evaluate.new.stack old c.into_next.ensures.next refl c.in_ok-came.ensures.runs;
    }
