use Rattle.std.proofs.Common.{drop, map, string_bytes}
use Rattle.std.specs.Vec.Iter.{into_iter_items}
use Rattle.tt_session.specs.Answer.{IsAnswered}
use Rattle.tt_session.proofs.CloseLemmas.{unread-answer}
use Rattle.tt_session.proofs.WordLemmas.{if-given, no-memory, of-given}
use Rattle.tclthread.proofs.program.call.Goals as goal

pub returns-in-Ok-clause-answer : goal.returns-in-Ok-clause-answer
returns-in-Ok-clause-answer g c =
    of-given c.args.all (λ all. drop 1 (into_iter_items all)) c.in-Ok.words.items c.as_slice.result.now
    (λ list. IsAnswered g.F.Files g.S.Source g.K.Sink g.E.Sink (map string_bytes list) c.args.files.now c.session.new.files
    (record { input = c.args.input; output = c.args.output; errors = c.args.errors }) c.session.result)
    c.in-Ok.ensures.read c.as_slice.ensures.value c.session.ensures.answer

pub returns-in-Err-clause-answer : goal.returns-in-Err-clause-answer
returns-in-Err-clause-answer g c =
    if-given c.args.all _ _ c.in-Err.ensures.read (λ all is.
    unread-answer g.F.Files g.S.Source g.K.Sink g.E.Sink (map string_bytes (drop 1 (into_iter_items all))) c.in-Err.why _ _ _ (no-memory c.in-Err.why _ is)
    c.refuse.ensures.status c.refuse.ensures.no_step c.refuse.ensures.streams c.refuse.ensures.line)
