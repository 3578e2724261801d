use Rattle.std.proofs.Common.{◌≡◌, ◌<◌, false, true, length, get_or, take, drop-cons, arith}
use Rattle.std.specs.Char.{is_ascii_digit}
use Rattle.std.proofs.lemmas.List.{take_more}
use Rattle.tt_ids.proofs.DigitLemmas.{all-more}
use Rattle.tt_ids.proofs.thread_number.digit_run.Goals as goal

pub returns-then-not-is_ascii_digit : goal.returns-then-not-is_ascii_digit
returns-then-not-is_ascii_digit c =
    let short : c.loop-place.place < length c.args.text.now = omega arith in
    let stops : is_ascii_digit (get_or c.args.text.now c.loop-place.place 0) ≡ false = cc in
    record {
      within = omega arith;
      digits = c.loop-place.invariant;
      stops = rw (drop-cons c.args.text.now c.loop-place.place 0) stops;
    }

pub loop-place-preserved : goal.loop-place-preserved
loop-place-preserved c =
    let digit : is_ascii_digit (get_or c.args.text.now c.loop-place.place 0) ≡ true = cc in
    let short : c.loop-place.place < length c.args.text.now = omega arith in
    rw (take_more c.args.text.now c.loop-place.place 0)
    (all-more (take c.loop-place.place c.args.text.now) (get_or c.args.text.now c.loop-place.place 0) c.loop-place.invariant digit)
