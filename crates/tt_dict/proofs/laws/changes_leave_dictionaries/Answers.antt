use Rattle.tt_dict.proofs.DictLaws.{changed_keys}
use Rattle.tt_dict.proofs.laws.changes_leave_dictionaries.Goals as goal

pub returns : goal.returns
returns c = changed_keys
