use Rattle.tt_format.proofs.DigitRuns.{front_digits}
use Rattle.tt_format.proofs.specifier.read_number.Goals as goal

pub number_of-requires : goal.number_of-requires
number_of-requires c = front_digits c.args.text.now c.split_at.result.0.now c.digit_count.result c.digit_count.ensures.count c.split_at.ensures.front
