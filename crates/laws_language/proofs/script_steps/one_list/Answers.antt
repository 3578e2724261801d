use Rattle.laws_language.proofs.OneList.{same_commands}
use Rattle.laws_language.proofs.script_steps.one_list.Goals as goal

pub returns : goal.returns
returns c = same_commands
