use Rattle.std.proofs.Common.{arith}
use Rattle.tt_ids.proofs.DigitLemmas.{next_step}
use Rattle.tt_debug.proofs.command.value_of.Goals as goal

pub overflow_mul-value : goal.overflow_mul-value
overflow_mul-value c =
    let step = next_step c.args.digits.now c.loop-digit.digit-index c.loop-digit.value c.requires.short c.requires.digits c.loop-digit-test.true c.loop-digit.invariant.0 c.loop-digit.invariant.1 in
    omega (arith, step.fits)

pub overflow_sub-digit : goal.overflow_sub-digit
overflow_sub-digit c =
    (next_step c.args.digits.now c.loop-digit.digit-index c.loop-digit.value c.requires.short c.requires.digits c.loop-digit-test.true c.loop-digit.invariant.0 c.loop-digit.invariant.1).low

pub overflow_add-value : goal.overflow_add-value
overflow_add-value c =
    let step = next_step c.args.digits.now c.loop-digit.digit-index c.loop-digit.value c.requires.short c.requires.digits c.loop-digit-test.true c.loop-digit.invariant.0 c.loop-digit.invariant.1 in
    omega (arith, step.fits)

pub loop-digit-preserved : goal.loop-digit-preserved
loop-digit-preserved c =
    let step = next_step c.args.digits.now c.loop-digit.digit-index c.loop-digit.value c.requires.short c.requires.digits c.loop-digit-test.true c.loop-digit.invariant.0 c.loop-digit.invariant.1 in
    (rw c.from.ensures step.more, step.digits_left)
