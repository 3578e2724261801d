use Rattle.std.proofs.Common.{◌≡◌, ◌∙◌, arith, ◌-◌, sym, ap, length-drop, drop, take, ◌++◌, ◌+◌, length}
use Rattle.std.specs.List.{prefix_len}
use Rattle.tt_lists.specs.Reading.{is_plain, front_run, stops}
use Rattle.tt_lists.proofs.Runs.{escape_read, plain_read, rest_whole, plain_some, backslash_le, joined}
use Rattle.tt_lists.proofs.run.read_run.Goals as goal

pub loop-at-preserved-then-text-at-eq92 : goal.loop-at-preserved-then-text-at-eq92
loop-at-preserved-then-text-at-eq92 c =
    let text = c.args.text.now in
    let read = escape_read (stops c.args.stop) text c.loop-at.value c.loop-at.at (omega arith) (sym c.if-not-stops.ensures) c.if-text-at-eq92.true in
    let pushed = c.in_ok-push_bytes.ensures.pushed in
    let sequence = c.backslash-sequence.ensures in
    let value = pushed ∙ ap (λ t. c.loop-at.value ++ t) (ap (λ n. take n c.backslash-sequence.result.bytes) c.from.ensures ∙ sequence.value) in
    record {
      within =
          omega (arith, sequence.next, backslash_le (drop (c.loop-at.at + 1) text), length-drop (c.loop-at.at + 1) text);
      run =
          c.loop-at.invariant.run ∙ read ∙ (cc (value, sequence.next));
    }

pub loop-at-preserved : goal.loop-at-preserved
loop-at-preserved c =
    let text = c.args.text.now in
    let at = c.loop-at.at in
    let n = c.plain_length.result in
    let rest = rest_whole text at in
    let plain = c.plain_length.ensures.value ∙ ap (prefix_len (is_plain (stops c.args.stop))) rest in
    let less : at + n - at ≡ n = omega arith in
    let pushed = c.in_ok-push_bytes-2.ensures.pushed ∙ ap (λ k. c.loop-at.value ++ take k (drop at text)) less in
    let read = plain_read (stops c.args.stop) text c.loop-at.value at n plain in
    record {
      within = omega (arith, c.plain_length.ensures.within, ap length rest, length-drop at text);
      run = c.loop-at.invariant.run ∙ read ∙ ap (λ value. joined value (at + n) (front_run (stops c.args.stop) 0 (drop (at + n) text))) (sym pushed);
    }

pub loop-at-smaller : goal.loop-at-smaller
loop-at-smaller c =
    let text = c.args.text.now in
    let at = c.loop-at.at in
    let some = plain_some (stops c.args.stop) text at (omega arith) (sym c.if-not-stops.ensures) c.if-text-at-eq92.false in
    let rest = rest_whole text at in
    let plain = c.plain_length.ensures.value ∙ ap (prefix_len (is_plain (stops c.args.stop))) rest in
    omega (arith, some, plain, c.plain_length.ensures.within, ap length rest, length-drop at text)
