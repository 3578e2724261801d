use Rattle.std.proofs.Common.{refl}
use Rattle.tt_search.proofs.ReportLemmas.{two-reports, whole-input}
use Rattle.tt_search.proofs.SearchLemmas.{begins-after, shown-after}
use Rattle.tt_search.specs.Searched.{found, no_memory, refused, sound, unread}
use Rattle.tt_search.proofs.searching.look.Goals as goal

pub returns-in-Err : goal.returns-in-Err
returns-in-Err g c =
    refused c.in-Err.why c.in-Err.ensures.refused c.refuse.ensures.end (record {
      output_is = c.refuse.ensures.output;
      reported = c.refuse.ensures.reported;
      unwritten = record { same = c.in-Err.ensures.same; steady = c.in-Err.ensures.no_write };
    }) c.refuse.ensures.line

pub returns-in-Err-NoMemory : goal.returns-in-Err-NoMemory
returns-in-Err-NoMemory g c =
    no_memory c.refuse-in-Err-NoMemory.ensures.end (record {
      output_is = c.refuse-in-Err-NoMemory.ensures.output;
      reported = c.refuse-in-Err-NoMemory.ensures.reported;
      unwritten = record { same = c.in-Ok.ensures.same; steady = c.in-Ok.ensures.no_write };
    })

pub returns-in-Err-read_whole : goal.returns-in-Err-read_whole
returns-in-Err-read_whole g c =
    unread c.refuse-in-Err-read_whole.ensures.end (record {
      output_is = c.refuse-in-Err-read_whole.ensures.output;
      reported = c.refuse-in-Err-read_whole.ensures.reported;
      unwritten = record { same = c.in-Ok.ensures.same; steady = c.in-Ok.ensures.no_write };
    }) c.refuse-in-Err-read_whole.ensures.line

pub returns-in-Err-find : goal.returns-in-Err-find
returns-in-Err-find g c =
    no_memory c.refuse-in-Err-find.ensures.end (record {
      output_is = c.refuse-in-Err-find.ensures.output;
      reported = two-reports _ _ _ c.in-Err-find.ensures.reported c.refuse-in-Err-find.ensures.reported;
      unwritten = record { same = c.in-Ok.ensures.same; steady = c.in-Ok.ensures.no_write };
    })

pub returns-in-Ok-None : goal.returns-in-Ok-None
returns-in-Ok-None g c =
    sound refl (record {
      output_is = refl;
      reported = c.in-Ok-None.ensures.reported;
      unwritten = record { same = c.in-Ok.ensures.same; steady = c.in-Ok.ensures.no_write };
    })

pub show-requires-clause-begins : goal.show-requires-clause-begins
show-requires-clause-begins g c = begins-after _ _ _ _ c.in-Ok.ensures.same c.in-Ok.ensures.ready

pub returns-in-Ok-Some : goal.returns-in-Ok-Some
returns-in-Ok-Some g c =
    let shown = c.show.ensures.shown in
    let is = shown-after g.F.Files g.K.Sink g.E.Sink _ _ c.args.files.now c.prepare_plain.new.files c.show.new.files _ _ _ shown.0
    c.in-Ok.ensures.same c.in-Ok.ensures.no_write (c.in-Ok.ensures.steady (λ other. cc)) shown.2 in
    found shown.0 shown.1 (record {
      supply = is.supply;
      middle = c.find.new.errors;
      ended = is.ended;
      whole = whole-input _ _ _ is.supply c.in-Ok-read_whole.ensures.whole is.input_is;
      before = c.in-Ok-Some.ensures.reported;
      ran = is.ran;
      ends = is.ends;
      output_is = is.output_is;
      after = is.after;
    })
