use Rattle.tt_search.proofs.ReportLemmas.{two-reports}
use Rattle.tt_search.proofs.searching.first_find.Goals as goal

pub returns-in-Some : goal.returns-in-Some
returns-in-Some g c = record { reported = two-reports _ _ _ c.loop-tenth.invariant c.report_counts.ensures }

pub loop-tenth-preserved : goal.loop-tenth-preserved
loop-tenth-preserved g c = two-reports _ _ _ c.loop-tenth.invariant c.report_progress.ensures

pub returns : goal.returns
returns g c = record { reported = two-reports _ _ _ c.loop-tenth.invariant c.report_counts-2.ensures }
