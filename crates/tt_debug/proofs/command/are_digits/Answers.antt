use Rattle.std.proofs.Common.{◌≡◌, ◌∙◌, ◌<◌, false, true, length, get_or, arith, sym}
use Rattle.std.specs.Char.{is_ascii_digit}
use Rattle.tt_debug.proofs.CommandLemmas.{digit-more, digit-stops}
use Rattle.tt_debug.proofs.command.are_digits.Goals as goal

pub returns-then-not-is_ascii_digit : goal.returns-then-not-is_ascii_digit
returns-then-not-is_ascii_digit c =
    let short : c.loop-byte.byte-index < length c.args.bytes.now = omega arith in
    let stops : is_ascii_digit (get_or c.args.bytes.now c.loop-byte.byte-index 0) ≡ false = cc in
    sym (c.loop-byte.invariant ∙ digit-stops c.args.bytes.now c.loop-byte.byte-index short stops)

pub loop-byte-preserved : goal.loop-byte-preserved
loop-byte-preserved c =
    let short : c.loop-byte.byte-index < length c.args.bytes.now = omega arith in
    let digit : is_ascii_digit (get_or c.args.bytes.now c.loop-byte.byte-index 0) ≡ true = cc in
    c.loop-byte.invariant ∙ digit-more c.args.bytes.now c.loop-byte.byte-index short digit
