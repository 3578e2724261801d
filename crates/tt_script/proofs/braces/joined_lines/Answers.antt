use Rattle.std.proofs.Common.{arith, ◌+◌, ◌∙◌, ap, ◌++◌, append-nil, sym, Some}
use Rattle.std.proofs.lemmas.Option.{slice_get-get_or}
use Rattle.tt_script.proofs.Escapes.{backslash_at_within}
use Rattle.tt_script.proofs.Joining.{joined_on, joined_at-letter, joined_at-newline, joined_at-pair, joined_at-end}
use Rattle.tt_script.proofs.Scanning.{next_brace-bounds}
use Rattle.tt_script.proofs.braces.joined_lines.Goals as goal

pub loop-at-preserved-then-text-at-ne92 : goal.loop-at-preserved-then-text-at-ne92
loop-at-preserved-then-text-at-ne92 c =
    let text = c.args.text.now in
    let next = c.next_brace-next.result in
    let bounds = next_brace-bounds text (c.loop-at.at + 1) (omega arith) in
    record {
      within = omega (arith, bounds.1, c.next_brace-next.ensures);
      joined = joined_on text c.loop-at.at next _ _ _ _ c.loop-at.invariant.joined c.in_ok-push_bytes.ensures.pushed
          (joined_at-letter text c.loop-at.at next c.loop-at-test.true c.if-text-at-ne92.true c.next_brace-next.ensures);
    }

pub backslash-at-requires : goal.backslash-at-requires
backslash-at-requires c = slice_get-get_or c.args.text.now c.loop-at.at 0 c.loop-at-test.true ∙ ap Some c.if-text-at-ne92.false

pub loop-at-preserved-then-begins : goal.loop-at-preserved-then-begins
loop-at-preserved-then-begins c =
    let text = c.args.text.now in
    let next = c.backslash-at.result.next in
    record {
      within = omega (arith, backslash_at_within text c.loop-at.at c.loop-at-test.true, c.backslash-at.ensures.next);
      joined = joined_on text c.loop-at.at next _ _ _ _ c.loop-at.invariant.joined c.in_ok-push_bytes-2.ensures.pushed
          (joined_at-newline text c.loop-at.at next c.loop-at-test.true c.if-text-at-ne92.false
          (sym c.begins.ensures ∙ c.if-begins.true) c.backslash-at.ensures.next);
    }

pub loop-at-preserved : goal.loop-at-preserved
loop-at-preserved c =
    let text = c.args.text.now in
    let next = c.after_escape-next.result in
    record {
      within = omega (arith, c.after_escape-next.ensures.escaped c.if-text-at-ne92.false);
      joined = joined_on text c.loop-at.at next _ _ _ _ c.loop-at.invariant.joined c.in_ok-push_bytes-3.ensures.pushed
          (joined_at-pair text c.loop-at.at next c.loop-at-test.true c.if-text-at-ne92.false (sym c.begins.ensures ∙ c.if-begins.false)
          (c.after_escape-next.ensures.escaped c.if-text-at-ne92.false));
    }

pub returns : goal.returns
returns c = sym (ap (λ rest. c.loop-at.joined ++ rest) (joined_at-end c.args.text.now c.loop-at.at c.loop-at-test.false) ∙ append-nil c.loop-at.joined)
    ∙ c.loop-at.invariant.joined
