use Rattle.std.proofs.Common.{[], subst}
use Rattle.tt_search.proofs.ReportLemmas.{line-report, refusal-put}
use Rattle.tt_session.specs.Lines.{PutsLine}
use Rattle.tt_search.proofs.searching.put_refusal.Goals as goal

pub returns-then-is_usage-clause-line : goal.returns-then-is_usage-clause-line
returns-then-is_usage-clause-line g c =
    refusal-put g.E.Sink _ _ _ (λ is. c.report_usage.ensures) (λ not. absurd (not (c.is_usage.ensures.0 c.if-is_usage.true)))

pub returns-else-is_usage-clause-reported : goal.returns-else-is_usage-clause-reported
returns-else-is_usage-clause-reported g c = line-report g.E.Sink _ _ _ _ c.put_status.ensures

pub returns-else-is_usage-clause-line : goal.returns-else-is_usage-clause-line
returns-else-is_usage-clause-line g c =
    refusal-put g.E.Sink c.args.status.now c.args.errors.now c.put_status.new.errors (λ is. line-report g.E.Sink _ _ _ _ c.put_status.ensures)
    (λ not. subst (λ count. PutsLine g.E.Sink count c.args.status.now [] c.args.errors.now c.put_status.new.errors) c.faults-before.ensures
    c.put_status.ensures)
