use Rattle.std.proofs.Common.{refl}
use Rattle.tt_waits.proofs.Marking.{mark_put}
use Rattle.tt_waits.proofs.rows.Rows.mark.Goals as goal

pub returns-clause-marks : goal.returns-clause-marks
returns-clause-marks c =
    mark_put c.args.self.now _ refl refl c.args.from c.args.to c.index_mut.result.now c.requires.from c.requires.to c.index_mut.ensures.value refl
