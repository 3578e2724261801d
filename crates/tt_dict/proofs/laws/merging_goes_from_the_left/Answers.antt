use Rattle.tt_dict.proofs.DictLaws.{merges_on}
use Rattle.tt_dict.proofs.laws.merging_goes_from_the_left.Goals as goal

pub returns : goal.returns
returns c = merges_on
