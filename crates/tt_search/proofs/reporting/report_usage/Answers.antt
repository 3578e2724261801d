use Rattle.tt_search.proofs.ReportLemmas.{two-reports}
use Rattle.tt_search.proofs.reporting.report_usage.Goals as goal

pub returns : goal.returns
returns g c = two-reports _ _ _ c.put_piece.ensures (two-reports _ _ _ c.put_piece-2.ensures c.put_piece-3.ensures)
