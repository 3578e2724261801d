use Rattle.tt_number.proofs.Reading.Decimal.{decimal_law}
use Rattle.tt_number.proofs.laws.decimal_texts_are_read_back.Goals as goal

pub returns : goal.returns
returns c = decimal_law
