use Rattle.tt_session.specs.Answer.{ran, refused}
use Rattle.tt_session.proofs.without_workers.run_replay.Goals as goal

pub returns-in-Ok : goal.returns-in-Ok
returns-in-Ok g c =
    let run = c.run_reported-reported in
    let closed = c.close_reported.ensures in
    ran (record {
      setup = _;
      mode = _;
      finish = run.result.finish;
      asks = c.requires.run;
      begins = c.in-Ok.ensures.ready;
      leaves = run.ensures.leaves;
      records = (closed.status, record { same = c.in-Ok.ensures.same; steady = c.in-Ok.ensures.no_write });
      more = run.result.more;
      report = rw closed.status run.ensures.report;
      line = rw c.faults-before.ensures at closed.line;
      schedule = closed.schedule;
      input = closed.streams.0;
      output = closed.streams.1;
      reads_steady = c.in-Ok.ensures.steady (λ other. cc);
    })

pub returns-in-Err : goal.returns-in-Err
returns-in-Err g c =
    refused c.in-Err.why c.in-Err.ensures.refused (record {
      status = c.refuse.ensures.status;
      no_step = c.refuse.ensures.no_step;
      input = c.refuse.ensures.streams.0;
      output = c.refuse.ensures.streams.1;
      line = c.refuse.ensures.line;
      unwritten = record { same = c.in-Err.ensures.same; steady = c.in-Err.ensures.no_write };
      reads_steady = λ other. c.in-Err.ensures.steady (λ failed. other (cc failed));
    })
