use Rattle.std.proofs.Common.{[], append-nil, refl, sym}
use Rattle.tt_debug.proofs.ThreadLemmas.{no-line, one-line}
use Rattle.tt_debug.proofs.threads.push_thread.Goals as goal
use Rattle.tt_debug.specs.Lines.{thread_line}

pub returns-in_default : goal.returns-in_default
returns-in_default g c = record {
  pushed = (
    [],
    sym (append-nil c.args.text.now),
    no-line g.S.Source.held c.args.system.now c.args.number (c.in_default.ensures.silent refl c.requires.going) c.requires.not_over,
  );
}

pub returns : goal.returns
returns g c = record {
  pushed = (
    thread_line c.args.number c.enabled.result c.in-Some.request.now,
    c.in_ok-push_line.ensures.pushed,
    one-line g.S.Source.held c.args.system.now c.args.number c.in-Some.request.now c.enabled.result c.requires.going c.in-Some.ensures.asks
        c.requires.not_over c.enabled.ensures.can c.enabled.ensures.barred,
  );
}
