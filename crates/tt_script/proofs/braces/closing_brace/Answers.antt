use Rattle.std.proofs.Common.{◌-◌, ◌∙◌, sym, arith, drop, Some}
use Rattle.tt_script.proofs.Bracing.{closing-run, closing_at-passed, Deepens}
use Rattle.tt_script.proofs.Cuts.{or_false}
use Rattle.tt_script.proofs.Joining.{plain-run, plain_on, plain-whole}
use Rattle.tt_script.proofs.Scanning.{next_brace-bounds}
use Rattle.tt_script.proofs.braces.closing_brace.Goals as goal

pub loop-at-init : goal.loop-at-init
loop-at-init c =
    let stop = c.next_brace-at.result in
    record {
      begun = omega (arith, (next_brace-bounds c.args.text.now c.args.from c.requires).0, c.next_brace-at.ensures);
      within = omega (arith, (next_brace-bounds c.args.text.now c.args.from c.requires).1, c.next_brace-at.ensures);
      depth = omega arith;
      plain = λ e room. plain-run (stop - c.args.from) (drop c.args.from c.args.text.now) (omega (arith, c.next_brace-at.ensures));
      place = closing-run c.args.text.now c.args.from stop 0 c.requires c.next_brace-at.ensures;
    }

pub loop-at-preserved : goal.loop-at-preserved
loop-at-preserved c =
    let text = c.args.text.now in
    let told : Deepens _ c.loop-at.depth (Some c.in-Some.inner) =
    record {
      opens =
          c.in-Some.ensures.opens;
      closes_outer =
          c.in-Some.ensures.closes_outer;
      closes_inner = c.in-Some.ensures.closes_inner;
      other = c.in-Some.ensures.other;
    } in
    let passed =
    closing_at-passed text c.loop-at.at c.loop-at.depth c.after_escape.result c.in-Some.inner c.loop-at-test.true c.loop-at.invariant.depth c.after_escape.ensures.escaped c.after_escape.ensures.single told in
    let bounds = next_brace-bounds text c.after_escape.result passed.within in
    record {
      begun = omega (arith, bounds.0, c.next_brace-at-in-loop-at.ensures, passed.later);
      within = omega (arith, bounds.1, c.next_brace-at-in-loop-at.ensures);
      depth = omega (arith, bounds.0, c.next_brace-at-in-loop-at.ensures, passed.low);
      plain = λ joined room.
          let neither = or_false c.loop-at.joins c.continues_line-joins.result joined in
          plain_on text c.args.from c.loop-at.at c.after_escape.result c.next_brace-at-in-loop-at.result c.loop-at.invariant.begun passed.later c.loop-at-test.true c.next_brace-at-in-loop-at.ensures room c.after_escape.ensures.escaped c.after_escape.ensures.single (sym c.continues_line-joins.ensures ∙ neither.1) (c.loop-at.invariant.plain neither.0 c.loop-at-test.true);
      place = c.loop-at.invariant.place ∙ passed.place
          ∙ closing-run text c.after_escape.result c.next_brace-at-in-loop-at.result c.in-Some.inner passed.within c.next_brace-at-in-loop-at.ensures;
    }

pub returns-in-None-clause-plain : goal.returns-in-None-clause-plain
returns-in-None-clause-plain c = λ joins. plain-whole _ (c.loop-at.invariant.plain joins c.loop-at-test.true)
