use Rattle.std.proofs.Common.{◌∙◌, refl}
use Rattle.tt_session.proofs.DebugLemmas.{cut-shown, none-shown, one-more-shown}
use Rattle.tt_session.proofs.debugging.answer_lines.Goals as goal

pub loop-rest-init : goal.loop-rest-init
loop-rest-init g c = (refl, refl, none-shown g.K.Sink _ _ c.args.commands.now _ _ c.requires.begins)

pub returns-in-Err : goal.returns-in-Err
returns-in-Err g c =
    let so_far = c.loop-rest.invariant in
    record {
      shown = (
        cut-shown g.K.Sink _ _ _ _ _ _ _ c.cut_line.result.1.now _ _ _ _ so_far.2 c.cut_line.ensures.lines (rw (so_far.0, so_far.1) at c.in-Ok.ensures.shown)
            (rw c.as_bytes.ensures.bytes at c.in-Err.ensures.part),
        rw so_far.2.steady at c.in-Err.ensures.cause,
      );
    }

pub loop-rest-preserved-in-Ok-put_answer : goal.loop-rest-preserved-in-Ok-put_answer
loop-rest-preserved-in-Ok-put_answer g c =
    let so_far = c.loop-rest.invariant in (
      c.in-Ok.ensures.same.0 ∙ so_far.0,
      c.in-Ok.ensures.same.1 ∙ so_far.1,
      one-more-shown g.K.Sink _ _ _ _ _ _ _ _ _ _ _ _ so_far.2 c.cut_line.ensures.lines (rw (so_far.0, so_far.1) at c.in-Ok.ensures.shown)
          (rw c.as_bytes.ensures.bytes at c.in-Ok-put_answer.ensures.put) c.in-Ok-put_answer.ensures.steady,
    )

pub loop-rest-preserved : goal.loop-rest-preserved
loop-rest-preserved g c =
    let so_far = c.loop-rest.invariant in (
      c.in-Ok.ensures.same.0 ∙ so_far.0,
      c.in-Ok.ensures.same.1 ∙ so_far.1,
      one-more-shown g.K.Sink _ _ _ _ _ _ _ _ _ _ _ _ so_far.2 c.cut_line.ensures.lines (rw (so_far.0, so_far.1) at c.in-Ok.ensures.shown)
          (rw c.as_bytes.ensures.bytes at c.in-Ok-put_answer.ensures.put) c.in-Ok-put_answer.ensures.steady,
    )
