use Rattle.std.proofs.Common.{◌∙◌, sym, ap, arith}
use Rattle.std.proofs.lemmas.Fmt.{decimal_digit}
use Rattle.tt_code.specs.Needs.{bit}
use Rattle.tt_code.proofs.truths.bit.Goals as goal

pub returns-then-truth : goal.returns-then-truth
returns-then-truth c = record {
  bit = c.from_whole.ensures.written ∙ decimal_digit 1 (omega arith) ∙ ap bit (sym c.if-truth.true);
}

pub returns-else-truth : goal.returns-else-truth
returns-else-truth c = record {
  bit = c.from_whole-else-truth.ensures.written ∙ decimal_digit 0 (omega arith) ∙ ap bit (sym c.if-truth.false);
}
