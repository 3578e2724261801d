use Rattle.std.proofs.Common.{[], ◌∙◌, refl}
use Rattle.tt_session.specs.Answer.{ran, refused}
use Rattle.tt_session.proofs.CloseLemmas.{records-after}
use Rattle.tt_session.proofs.on_workers.start.Goals as goal

pub returns-in-Ok : goal.returns-in-Ok
returns-in-Ok g c =
    ran (record {
      setup = _;
      mode = _;
      finish = c.run_freely-finish.result;
      asks = tt;
      begins = c.in-Ok.ensures.ready;
      leaves = c.run_freely-finish.ensures;
      records = records-after g.F.Files _ _ _ c.args.files.now c.prepare_plain.new.files c.close.new.files _ c.in-Ok.ensures.same
          c.in-Ok.ensures.no_write c.close.ensures.records;
      more = [];
      report = refl;
      line = rw c.faults-before.ensures at c.close.ensures.line;
      schedule = c.close.ensures.schedule;
      input = c.close.ensures.streams.0;
      output = c.close.ensures.streams.1;
      reads_steady = c.close.ensures.no_read ∙ c.in-Ok.ensures.steady (λ other. cc);
    })

pub run_freely-finish-requires-clause-workers : goal.run_freely-finish-requires-clause-workers
run_freely-finish-requires-clause-workers g c κs within = c.requires.workers

pub run_freely-finish-requires-clause-steps : goal.run_freely-finish-requires-clause-steps
run_freely-finish-requires-clause-steps g c κs within = c.requires.steps

pub returns-in-Err : goal.returns-in-Err
returns-in-Err g c =
    refused c.in-Err.why c.in-Err.ensures.refused (record {
      status = c.refuse.ensures.status;
      no_step = c.refuse.ensures.no_step;
      input = c.refuse.ensures.streams.0;
      output = c.refuse.ensures.streams.1;
      line = c.refuse.ensures.line;
      unwritten = record { same = c.in-Err.ensures.same; steady = c.in-Err.ensures.no_write };
      reads_steady = λ other. c.in-Err.ensures.steady (λ failed. other (cc failed));
    })
