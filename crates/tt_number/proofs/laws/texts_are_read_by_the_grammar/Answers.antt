use Rattle.tt_number.proofs.Reading.Law.{reading_law}
use Rattle.tt_number.proofs.laws.texts_are_read_by_the_grammar.Goals as goal

pub returns : goal.returns
returns c = reading_law
