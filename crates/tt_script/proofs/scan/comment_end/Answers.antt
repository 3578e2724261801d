use Rattle.std.proofs.Common.{arith}
use Rattle.tt_script.proofs.Scanning.{comment_at-passed, comment-run, next_special-bounds}
use Rattle.tt_script.proofs.scan.comment_end.Goals as goal

pub loop-at-preserved : goal.loop-at-preserved
loop-at-preserved c =
    let text = c.args.text.now in
    let next = c.after_escape.result in
    let passed =
    comment_at-passed text c.loop-at.at next c.loop-at-test.true c.if-text-at-ne10.true c.after_escape.ensures.escaped c.after_escape.ensures.single in
    let stop = c.next_special-at-in-loop-at.result in
    let bounds = next_special-bounds text next passed.1 in
    record {
      within = omega (arith, bounds.1, c.next_special-at-in-loop-at.ensures);
      place = omega (arith, passed.0, comment-run text next stop passed.1 c.next_special-at-in-loop-at.ensures);
    }
