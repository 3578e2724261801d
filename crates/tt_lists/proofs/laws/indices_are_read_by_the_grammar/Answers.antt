use Rattle.tt_lists.proofs.IndexLaw.{index_law}
use Rattle.tt_lists.proofs.laws.indices_are_read_by_the_grammar.Goals as goal

pub returns : goal.returns
returns c = index_law
