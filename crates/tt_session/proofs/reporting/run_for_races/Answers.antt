use Rattle.std.proofs.Common.{◌∙◌, ap}
use Rattle.tt_session.proofs.ReportLemmas.{cut-of, given-chosen, races-left, races-reported}
use Rattle.tt_session.proofs.RunLemmas.{idle-leaves, machine-of, taken-leaves}
use Rattle.tt_session.specs.Choosing.{Replaying}
use Rattle.tt_session.proofs.reporting.run_for_races.Goals as goal

pub returns-in-Err-clause-leaves : goal.returns-in-Err-clause-leaves
returns-in-Err-clause-leaves g c =
    let given = c.in-Err.ensures.handed_back in
    let left = c.not_begun.ensures.streams in
    idle-leaves g.S.Source g.K.Sink g.E.Sink _ _ _ _ c.not_begun.ensures.end c.not_begun.ensures.no_step
    (left.0 ∙ ap (λ f. f.input) given) (left.1 ∙ ap (λ f. f.output) given) (left.2 ∙ ap (λ f. f.errors) given)

pub returns-in-Err-clause-report : goal.returns-in-Err-clause-report
returns-in-Err-clause-report g c = rw c.not_begun.ensures.end c.not_begun.ensures.no_report

pub returns-in-Ok-clause-leaves : goal.returns-in-Ok-clause-leaves
returns-in-Ok-clause-leaves g c =
    let is = c.in-Ok.ensures in
    let took = c.follow_told-end.ensures in
    let done = c.finish-schedule.ensures in
    let same = took.same_beginning in
    races-left g.S.Source g.K.Sink g.E.Sink _ (Replaying c.args.given.now.threads) _ c.follow_told-end.new.system (same.setup ∙ is.setup) (same.began
    ∙ is.given)
    (record {
      end = c.follow_told-end.result;
      schedule = c.finish-schedule.result.0;
      input = c.finish-schedule.result.1;
      output = c.finish-schedule.result.2;
      errors = c.finish-schedule.result.3;
    }) _ _ done.schedule
    (taken-leaves g.S.Source g.K.Sink g.E.Sink _ _ _ c.in-Ok.system c.follow_told-end.new.system _ is.setup is.given is.untouched same
    done.schedule done.devices.0 done.devices.1 done.devices.2
    took.allowed took.no_output took.no_errors took.read_fault took.reads_steady took.write_fault took.writes_steady
    (machine-of g.S.Source g.K.Sink g.E.Sink _ _ _ c.in-Ok.system c.follow_told-end.new.system _ is.setup is.given is.untouched same
    done.schedule (cut-of _ _ took.kept took.kept_or_not) done.devices.1 done.devices.2 done.faithful done.left
    (given-chosen g.S.Source.held c.follow_told-end.new.system _ _ took.ends)))
    c.follow_told-end.new.order c.races_after-more.result c.with_report.ensures.told c.with_report.ensures.untold
    c.races_after-more.ensures.report c.races_after-more.ensures.late

pub returns-in-Ok-clause-report : goal.returns-in-Ok-clause-report
returns-in-Ok-clause-report g c =
    let is = c.in-Ok.ensures in
    let took = c.follow_told-end.ensures in
    let done = c.finish-schedule.ensures in
    let same = took.same_beginning in
    races-reported g.S.Source g.K.Sink g.E.Sink c.args.setup (Replaying c.args.given.now.threads) (record {
      input = c.args.input;
      output =
          c.args.output;
      errors = c.args.errors;
    })
    c.follow_told-end.new.system (same.setup ∙ is.setup) (same.began ∙ is.given)
    (record {
      end = c.follow_told-end.result;
      schedule = c.finish-schedule.result.0;
      input = c.finish-schedule.result.1;
      output = c.finish-schedule.result.2;
      errors = c.finish-schedule.result.3;
    }) _ _ done.schedule
    (machine-of g.S.Source g.K.Sink g.E.Sink _ _ _ c.in-Ok.system c.follow_told-end.new.system _ is.setup is.given is.untouched same
    done.schedule (cut-of _ _ took.kept took.kept_or_not) done.devices.1 done.devices.2 done.faithful done.left
    (given-chosen g.S.Source.held c.follow_told-end.new.system _ _ took.ends))
    c.follow_told-end.new.order c.races_after-more.result c.with_report.ensures.told c.with_report.ensures.untold
    c.races_after-more.ensures.report c.races_after-more.ensures.late took.told
