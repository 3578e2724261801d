use Rattle.std.proofs.Common.{[], refl}
use Rattle.tt_session.specs.Answer.{ran, refused}
use Rattle.tt_session.specs.declared.status.Refusal.TheVariants.{NoMemory}
use Rattle.tt_session.proofs.without_workers.generate.Goals as goal

pub returns-in-Ok : goal.returns-in-Ok
returns-in-Ok g c =
    ran (record {
      setup = _;
      mode = _;
      finish = c.run_course-finish.result;
      asks = tt;
      begins = (c.in-Ok.ensures, refl);
      leaves = c.run_course-finish.ensures;
      records = c.close.ensures.records;
      more = [];
      report = refl;
      line = rw c.faults-before.ensures at c.close.ensures.line;
      schedule = c.close.ensures.schedule;
      input = c.close.ensures.streams.0;
      output = c.close.ensures.streams.1;
      reads_steady = c.close.ensures.no_read;
    })

pub returns-in-Err : goal.returns-in-Err
returns-in-Err g c =
    refused NoMemory tt (record {
      status = c.refuse.ensures.status;
      no_step = c.refuse.ensures.no_step;
      input = c.refuse.ensures.streams.0;
      output = c.refuse.ensures.streams.1;
      line = c.refuse.ensures.line;
      unwritten = record { same = refl; steady = refl };
      reads_steady = λ other. refl;
    })
