use Rattle.tt_lists.proofs.SplitLaw.{split_law}
use Rattle.tt_lists.proofs.laws.texts_are_split_by_the_grammar.Goals as goal

pub returns : goal.returns
returns c = split_law
