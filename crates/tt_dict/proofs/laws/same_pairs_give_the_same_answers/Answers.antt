use Rattle.tt_dict.proofs.DictLaws.{same_pairs}
use Rattle.tt_dict.proofs.laws.same_pairs_give_the_same_answers.Goals as goal

pub returns : goal.returns
returns c = same_pairs
