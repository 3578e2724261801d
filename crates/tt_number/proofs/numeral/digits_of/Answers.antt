use Rattle.std.proofs.Common.{◌<◌, length, get_or, arith}
use Rattle.std.specs.Char.{digit_value}
use Rattle.tt_number.proofs.Digits.{all_more, number_more, whole_number}
use Rattle.tt_number.proofs.numeral.digits_of.Goals as goal

pub loop-digit-preserved : goal.loop-digit-preserved
loop-digit-preserved c =
    let digit = c.in_ok-value.ensures.value in
    let fits : digit_value (get_or c.args.digits.now c.loop-digit.digit-index 0) < c.args.base = rw (← c.from.ensures) digit.0 in
    let within : c.loop-digit.digit-index < length c.args.digits.now = omega arith in
    let more = number_more c.args.base c.args.digits.now c.loop-digit.digit-index within (omega arith) in
    (all_more c.args.base c.args.digits.now c.loop-digit.digit-index within c.loop-digit.invariant.0 fits, (cc (more, digit.1)))

pub returns : goal.returns
returns c = whole_number c.args.base c.args.digits.now c.loop-digit.digit-index _ c.if-is_empty.ensures (omega arith)
    (omega arith) c.loop-digit.invariant.0 c.loop-digit.invariant.1
