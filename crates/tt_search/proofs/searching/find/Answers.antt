use Rattle.tt_search.proofs.ReportLemmas.{two-reports}
use Rattle.tt_search.proofs.searching.find.Goals as goal

pub returns-in-Err : goal.returns-in-Err
returns-in-Err g c = record { reported = two-reports _ _ _ c.report_turn.ensures c.first_find.ensures.reported }

pub returns-in-Ok-None : goal.returns-in-Ok-None
returns-in-Ok-None g c = record { reported = two-reports _ _ _ c.report_turn.ensures c.first_find.ensures.reported }

pub returns : goal.returns
returns g c =
    let found = two-reports _ _ _ c.report_turn.ensures c.first_find.ensures.reported in
    record { reported = two-reports _ _ _ found (two-reports _ _ _ c.report_find.ensures c.shrunk.ensures.reported) }
