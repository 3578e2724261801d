use Rattle.std.proofs.Common.{◌≡◌, ◌+◌, ◌∙◌, ap, None, arith, rules}
use Rattle.std.proofs.lemmas.Bool.Decides.{nat_tests}
use Rattle.std.proofs.lemmas.Int.Digits.{digits_value_more}
use Rattle.std.specs.Char.{digit_value}
use Rattle.tt_lists.proofs.Places.{too_great, whole_number, decimals_more}
use Rattle.tt_lists.proofs.indices.number_of.Goals as goal

pub returns-in_err-checked_mul : goal.returns-in_err-checked_mul
returns-in_err-checked_mul c =
    let digits = c.args.digits.now in
    let i = c.loop-digit.digit-index in
    let none : c.from_residual-in_err-checked_mul.result ≡ None = search rules in
    none ∙ too_great digits (i + 1) (omega (arith, c.in_err-checked_mul.ensures, digits_value_more 10 digits i (omega arith)))

pub returns-in_err-number : goal.returns-in_err-number
returns-in_err-number c =
    let digits = c.args.digits.now in
    let i = c.loop-digit.digit-index in
    let value = c.in_ok-value.ensures.value in
    let digit = ap digit_value c.from.ensures in
    let none : c.from_residual-in_err-number.result ≡ None = search rules in
    none ∙ too_great digits (i + 1)
    (omega (arith, c.in_err-number.ensures, c.in_ok-checked_mul.ensures, value, digit, c.from-in-loop-digit.ensures, digits_value_more 10 digits i (omega arith)))

pub loop-digit-preserved : goal.loop-digit-preserved
loop-digit-preserved c =
    let digits = c.args.digits.now in
    let i = c.loop-digit.digit-index in
    let value = c.in_ok-value.ensures.value in
    let digit = ap digit_value c.from.ensures in
    let sum = c.in_ok-number.ensures in
    record {
      decimal = decimals_more digits i (omega arith) c.loop-digit.invariant.decimal (omega (arith, value, digit));
      number = omega (arith, sum, c.in_ok-checked_mul.ensures, value, digit, c.from-in-loop-digit.ensures, digits_value_more 10 digits i (omega arith));
      fits = omega (arith, sum);
    }

pub returns : goal.returns
returns c = whole_number c.args.digits.now c.loop-digit.digit-index c.loop-digit.number (grind (arith, nat_tests, c.if-is_empty.ensures))
    (omega arith) c.loop-digit.invariant.decimal c.loop-digit.invariant.number c.loop-digit.invariant.fits
