use Rattle.tt_waits.specs.inside.Marks.{IsMarked}
use Rattle.tt_waits.proofs.Standing.{joins_at}
use Rattle.tt_waits.proofs.threads.mark_edge.Goals as goal

pub returns-in-Some-Some-clause-marks : goal.returns-in-Some-Some-clause-marks
returns-in-Some-Some-clause-marks c =
    joins_at c.args.threads.now c.args.edge.now c.in-Some-Some.from c.in-Some-Some.to c.requires.ascending c.in-Some-Some.ensures.some
    c.in-Some-Some.ensures'.some (IsMarked c.args.rows.now) (IsMarked c.mark.new.self) c.mark.ensures.marks
