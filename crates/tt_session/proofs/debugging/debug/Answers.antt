use Rattle.std.proofs.Common.{refl}
use Rattle.tt_session.specs.Answer.{debugged, refused}
use Rattle.tt_session.proofs.debugging.debug.Goals as goal

pub returns-in-Err : goal.returns-in-Err
returns-in-Err g c =
    refused c.in-Err.why c.in-Err.ensures.refused (record {
      status = c.refuse.ensures.status;
      no_step = c.refuse.ensures.no_step;
      input = c.refuse.ensures.streams.0;
      output = c.refuse.ensures.streams.1;
      line = c.refuse.ensures.line;
      unwritten = record { same = c.in-Err.ensures.same; steady = c.in-Err.ensures.no_write };
      reads_steady = λ other. c.in-Err.ensures.steady (λ failed. other (cc failed));
    })

pub returns-in-Ok : goal.returns-in-Ok
returns-in-Ok g c =
    debugged _ refl (record {
      file = c.args.file.now;
      asked = c.requires;
      setup = c.in-Ok.session.replay.setup;
      given = c.in-Ok.session.replay.given.threads;
      begins = c.in-Ok.ensures.ready;
      commands = c.in-Ok.session.commands.items;
      commands_are = c.in-Ok.ensures.commands;
      end = c.hold.ensures.shown.0;
      shown = c.hold.ensures.shown.2;
      status = c.hold.ensures.shown.1;
      no_step = c.hold.ensures.no_step;
      input = c.hold.ensures.input;
      line = c.hold.ensures.line;
      unwritten = record { same = c.in-Ok.ensures.same; steady = c.in-Ok.ensures.no_write };
      reads_steady = c.in-Ok.ensures.steady (λ failed. cc failed);
    })
