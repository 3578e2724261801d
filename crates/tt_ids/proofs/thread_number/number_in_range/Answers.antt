use Rattle.std.proofs.Common.{◌<◌, arith, sym, length}
use Rattle.std.proofs.lemmas.Bool.Decides.{nat_tests}
use Rattle.tt_ids.proofs.DigitLemmas.{written_as, value-decimal, decimal-value}
use Rattle.tt_ids.proofs.thread_number.number_in_range.Goals as goal

pub returns-then-is_empty-clause-none : goal.returns-then-is_empty-clause-none
returns-then-is_empty-clause-none c n range e =
    let some = (written_as c.args.digits.now n range e).nonempty in
    grind (arith, nat_tests)

pub returns-then-digits-gt-MOST_DIGITS-clause-none : goal.returns-then-digits-gt-MOST_DIGITS-clause-none
returns-then-digits-gt-MOST_DIGITS-clause-none c n range e = omega (arith, (written_as c.args.digits.now n range e).short)

pub returns-then-digits-eq48-clause-none : goal.returns-then-digits-eq48-clause-none
returns-then-digits-eq48-clause-none c n range e = omega (arith, (written_as c.args.digits.now n range e).first)

pub returns-then-number-gt-MOST-clause-none : goal.returns-then-number-gt-MOST-clause-none
returns-then-number-gt-MOST-clause-none c n range e = omega (arith, value-decimal n c.args.digits.now range e)

pub returns-clause-found : goal.returns-clause-found
returns-clause-found c =
    let some : 0 < length c.args.digits.now = grind (arith, nat_tests) in
    let value = decimal-value c.args.digits.now c.requires some c.if-digits-eq48.false c.if-digits-gt-MOST_DIGITS.false in
    rw c.value_of-number.ensures ((value.1, rw (← c.value_of-number.ensures) (omega arith)), sym value.0)
