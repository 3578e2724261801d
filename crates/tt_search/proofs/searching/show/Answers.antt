use Rattle.std.proofs.Common.{[], refl}
use Rattle.tt_search.proofs.searching.show.Goals as goal

pub returns : goal.returns
returns g c = record {
  shown = (
    c.close-status.result.status,
    refl,
    record {
      supply = c.new-source.result;
      ended = c.close-status.result;
      input_is = rw c.new-source.ensures refl;
      ran = record {
        setup = _;
        mode = _;
        finish = c.run_course-finish.result;
        asks = tt;
        begins = c.requires.begins;
        leaves = c.run_course-finish.ensures;
        records = c.close-status.ensures.records;
        more = [];
        report = refl;
        line = rw c.faults-before.ensures at c.close-status.ensures.line;
        schedule = c.close-status.ensures.schedule;
        input = c.close-status.ensures.streams.0;
        output = c.close-status.ensures.streams.1;
        reads_steady = c.close-status.ensures.no_read;
      };
      ends = refl;
      output_is = refl;
      after = c.report_replay.ensures;
    },
  );
}
