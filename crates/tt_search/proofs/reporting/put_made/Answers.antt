use Rattle.tt_search.proofs.ReportLemmas.{no-report}
use Rattle.tt_search.proofs.reporting.put_made.Goals as goal

pub returns-in-Err : goal.returns-in-Err
returns-in-Err g c = no-report _
