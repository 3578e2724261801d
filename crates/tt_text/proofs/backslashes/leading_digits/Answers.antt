use Rattle.tt_text.proofs.BackslashLemmas.{run_digits}
use Rattle.tt_text.proofs.backslashes.leading_digits.Goals as goal

pub returns-clause-digits : goal.returns-clause-digits
returns-clause-digits c = run_digits c.args.radix c.digit_count.result _ c.digit_count.ensures
