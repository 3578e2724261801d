use Rattle.tt_list_commands.proofs.SortLaw.{one_answer}
use Rattle.tt_list_commands.proofs.laws.sorting_has_one_answer.Goals as goal

pub returns : goal.returns
returns c = one_answer
