use Rattle.std.proofs.Common.{arith, ◌∙◌}
use Rattle.std.proofs.Math.Nat.{mul-le-mul_left}
use Rattle.tt_text.proofs.BackslashLemmas.{digit_at, few_digits, more_digits, digit_read, digit_pushed}
use Rattle.tt_text.proofs.backslashes.number.Goals as goal

pub overflow_mul-number : goal.overflow_mul-number
overflow_mul-number c =
    let few = few_digits c.loop-digit.digit-index (omega arith) in
    omega (arith, few, c.loop-digit.invariant.bound, mul-le-mul_left c.loop-digit.number c.requires.hexadecimal_or_less)

pub overflow_add-number : goal.overflow_add-number
overflow_add-number c =
    let few = few_digits c.loop-digit.digit-index (omega arith) in
    let digit = digit_at c.args.radix c.args.digits.now c.loop-digit.digit-index c.requires.digits (omega arith) in
    let read = digit_read _ _ _ c.to_digit.ensures.value digit in
    omega (arith, few, read, c.unwrap_or-value.ensures, c.loop-digit.invariant.bound, mul-le-mul_left c.loop-digit.number c.requires.hexadecimal_or_less)

pub loop-digit-preserved : goal.loop-digit-preserved
loop-digit-preserved c =
    let digit = digit_at c.args.radix c.args.digits.now c.loop-digit.digit-index c.requires.digits (omega arith) in
    let read = c.unwrap_or-value.ensures ∙ digit_read _ _ _ c.to_digit.ensures.value digit in
    record {
      value = digit_pushed c.args.radix c.args.digits.now c.loop-digit.digit-index c.loop-digit.number c.unwrap_or-value.result
          (omega arith) c.loop-digit.invariant.value read;
      bound = more_digits c.loop-digit.number c.args.radix c.unwrap_or-value.result c.loop-digit.digit-index c.loop-digit.invariant.bound c.requires.hexadecimal_or_less (omega (arith, read, digit));
    }

pub returns-clause-bound : goal.returns-clause-bound
returns-clause-bound c = omega (arith, few_digits c.loop-digit.digit-index (omega arith), c.loop-digit.invariant.bound)
