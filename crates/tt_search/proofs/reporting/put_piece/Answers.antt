use Rattle.tt_search.proofs.ReportLemmas.{part-report}
use Rattle.tt_search.proofs.reporting.put_piece.Goals as goal

pub returns-in-Ok : goal.returns-in-Ok
returns-in-Ok g c = record { text = c.args.piece.now; grew = c.in-Ok.ensures.put }

pub returns-in-Err : goal.returns-in-Err
returns-in-Err g c = part-report _ _ _ c.in-Err.ensures.part
